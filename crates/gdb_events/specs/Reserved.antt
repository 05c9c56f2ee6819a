-- Which bytes each hart has reserved at a moment, by the trace up to it.
use Rattle.std.specs.Prelude.{ℕ, zero, suc, ◌==◌, ◌&&◌, ◌||◌, nat_lt, Bool, if◌then◌else◌, List, [], ◌++◌, filter, codes, Option, Some, None}
use Rattle.hex.specs.Hex.{encode_lower}
use Rattle.pages.specs.Memory.{width_bytes}
use Rattle.round_schedule.specs.Accesses.{place_of}
use Rattle.round_schedule.specs.Held.{held}
use Rattle.round_schedule.specs.declared.event.Event.{Event}
use Rattle.round_schedule.specs.declared.span.Span.{Span}
use Rattle.hart_step.specs.declared.hart.Hart.{Hart}
use Rattle.machine.specs.Machine.{Running, after_rounds}
use Rattle.moments.specs.Sights.{Sight}
use Rattle.past_harts.specs.declared.moment.Moment.{Moment}
use Rattle.past_harts.specs.declared.point.Point.{Point}
use Rattle.gdb_replies.specs.CommandTexts.{reservation_line}
use Rattle.gdb_talk.specs.Told.{or_missing}
use Rattle.gdb_events.specs.Saying.{text_or}
use Rattle.gdb_events.specs.Rounds.{is_parallel, round_events}

-- the events of the round that are seen at a moment of a hart, which has done so many instructions. In the parallel phase none is: nothing is committed, and
-- no LR or SC is done in it. In a turn those of the parallel phase are seen, those of the turns before it, and the hart's own so far
abbrev pub is_seen : Moment → ℕ → Event → Bool
is_seen at done e = is_parallel e.phase || (nat_lt e.hart at.place.hart || (e.hart == at.place.hart && nat_lt (place_of e.access) done))

abbrev pub seen_events : Moment → ℕ → List Event → List Event
seen_events at done es = if is_parallel at.place.phase then [] else filter (is_seen at done) es

-- the trace of the run up to the moment, whose round begins so
abbrev pub trace_at : Moment → ℕ → Running → List Event
trace_at at done m = m.state.trace ++ seen_events at done (round_events m)

-- a line for each of the first n harts that has a reservation at a trace's end
abbrev pub span_line : ℕ → Option Span → List ℕ
span_line h None = []
span_line h (Some s) = reservation_line h (width_bytes s.width) s.address

unfoldable pub held_lines : List Event → ℕ → List ℕ
held_lines t zero = []
held_lines t (suc h) = held_lines t h ++ span_line h (held h t)

abbrev pub reserved_text : List Event → ℕ → List ℕ
reserved_text t harts = text_or (codes "no reservations\n") (held_lines t harts)

abbrev pub reservations_answer : Running → Point → ℕ → Option (Sight Hart) → List ℕ
reservations_answer m at harts s =
    or_missing s (λ (x : Sight Hart). encode_lower (reserved_text (trace_at at.moment x.hart.done (after_rounds at.moment.rounds m)) harts))
