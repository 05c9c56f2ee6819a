-- What the step of a point reads or writes: the one that is next, and behind a move the one that was last.
use Rattle.std.specs.Prelude.{ℕ, ◌-◌, ◌==◌, ◌&&◌, nat_lt, Bool, if◌then◌else◌, List, [], ◌++◌, codes, Option, Some, None}
use Rattle.std.specs.Option.{option_map}
use Rattle.std.specs.List.{flat_map}
use Rattle.hex.specs.Hex.{encode_lower}
use Rattle.round_schedule.specs.Accesses.{place_of}
use Rattle.round_schedule.specs.declared.event.Event.{Event}
use Rattle.report_lines.specs.Text.{event_text}
use Rattle.hart_step.specs.declared.hart.Hart.{Hart}
use Rattle.machine.specs.Machine.{Running, after_rounds}
use Rattle.moments.specs.Sights.{Sight}
use Rattle.past_harts.specs.declared.point.Point.{Point}
use Rattle.past_harts.specs.Points.{is_behind_move}
use Rattle.gdb_packets.specs.Writing.{packet_text}
use Rattle.gdb_events.specs.Saying.{text_or}
use Rattle.gdb_events.specs.Rounds.{round_events}

-- how many instructions the hart had done before that step. Where it has done none of the round there is none that was last
abbrev pub step_place : Point → ℕ → ℕ
step_place at done = if is_behind_move at.side && nat_lt 0 at.moment.place.count then done - 1 else done

-- the step's event is the one of the hart at that place, if there is one
abbrev pub is_step : ℕ → ℕ → Event → Bool
is_step h place e = e.hart == h && place_of e.access == place

-- its line in the trace
abbrev pub step_line : ℕ → ℕ → Event → List ℕ
step_line h place e = if is_step h place e then event_text e else []

abbrev pub step_lines : ℕ → ℕ → List Event → List ℕ
step_lines h place es = flat_map (step_line h place) es

abbrev pub step_text : Point → ℕ → List Event → List ℕ
step_text at done es = text_or (codes "no access\n") (step_lines at.moment.place.hart (step_place at done) es)

-- what is said of it; behind the last of so many rounds there is no step
abbrev pub event_words : ℕ → Running → Point → Option (Sight Hart) → Option (List ℕ)
event_words rounds m at s =
    if nat_lt at.moment.rounds rounds then option_map (λ (x : Sight Hart). step_text at x.hart.done (round_events (after_rounds at.moment.rounds m))) s
    else Some (codes "the recording ends here\n")

-- it is what is answered
abbrev pub words_answer : Option (List ℕ) → List ℕ
words_answer None = codes "E01"
words_answer (Some words) = encode_lower words

abbrev pub event_answer : ℕ → Running → Point → Option (Sight Hart) → List ℕ
event_answer rounds m at s = words_answer (event_words rounds m at s)

-- or it is told beside an answer, for the debugger's terminal
abbrev pub words_packet : Option (List ℕ) → List ℕ
words_packet None = []
words_packet (Some words) = packet_text (codes "O" ++ encode_lower words)

abbrev pub event_packet : ℕ → Running → Point → Option (Sight Hart) → List ℕ
event_packet rounds m at s = words_packet (event_words rounds m at s)
