-- What a hart is and sees within the next round, as it is found: from a shorter round of it, or from two short turns.
use Rattle.std.specs.Prelude.{◌≡◌, ℕ, ◌==◌, nat_lt, Bool, if◌then◌else◌, List, [], take, Option, Some, None}
use Rattle.pages.specs.declared.access.Range.{Range}
use Rattle.pages.specs.Memory.{Memory, after}
use Rattle.round_schedule.specs.declared.span.Span.{Span}
use Rattle.round_schedule.specs.ByReservations.{committed_reservations}
use Rattle.round_schedule.specs.ReservingTurn.{ReservingPhase, ReservingTurn, reserving_phase_from, reserving_turn_from}
use Rattle.round_schedule.specs.Schedule.{HartRound, all_stores}
use Rattle.hart_step.specs.declared.hart.Hart.{Hart}
use Rattle.hart_step.specs.Console.{ConsoleState}
use Rattle.hart_step.specs.Numbers.{minus}
use Rattle.hart_step.specs.Words.{words_of}
use Rattle.moments.specs.Sights.{Sight}
use Rattle.serial_phase.specs.Phase.{HasBytes}
use Rattle.serial_phase.specs.declared.shared.SharedState.{SharedState}
use Rattle.serial_phase.specs.declared.shared.Turn.{Turn}
use Rattle.guest_turns.specs.declared.asked_turn.TurnPlace.{TurnPlace}
use Rattle.hart_rounds.specs.declared.hart_end.HartEnd.{HartEnd}
use Rattle.guest_rounds.specs.Guests.{Shared}
use Rattle.guest_rounds.specs.HartEnds.{AreEndsOf}

-- what a hart sees that began a turn of at most `budget` instructions as h, after `count` of them: a turn of as many ends as d, and one more
-- instruction from there leaves the hart as e. There is none where d did fewer. Where that one is not done, it ends the turn, and changes no byte
abbrev pub found : ℕ → ℕ → Hart → Sight Hart → Hart → Option (Sight Hart)
found budget count h d e =
    if nat_lt (minus d.hart.done h.done) count then None
    else (if count == budget then Some d
    else (if e.done == d.hart.done then Some (record d { hart = e })
    else Some d))

abbrev pub seen_at : ReservingTurn Hart ConsoleState → Sight Hart
seen_at d = record { hart = d.hart; bytes = d.bytes }

abbrev pub found_by : ℕ → ℕ → Hart → ReservingTurn Hart ConsoleState → ReservingTurn Hart ConsoleState → Option (Sight Hart)
found_by budget count h d e = found budget count h (seen_at d) e.hart

-- the state after one more instruction of hart i's turn in round n
abbrev pub one_further : List Range → ℕ → ℕ → ReservingTurn Hart ConsoleState → ReservingTurn Hart ConsoleState
one_further code n i d = reserving_turn_from (words_of code) n i 1 (record d { log = [] })

-- the same from the state in which the turn begins
abbrev pub found_at : List Range → TurnPlace → ReservingTurn Hart ConsoleState → Option (Sight Hart)
found_at code place d =
    let e = reserving_turn_from (words_of code) place.round place.hart place.count d in
    found_by place.budget place.count d.hart e (one_further code place.round place.hart e)

-- the state in which a hart's turn begins
abbrev pub reserving_turn_begun : Hart → List ℕ → ConsoleState → List (Option Span) → ReservingTurn Hart ConsoleState
reserving_turn_begun h bs c reservations = record { hart = h; bytes = bs; console = c; reservations = reservations; log = [] }

-- what is shared once the stores of all harts are committed, where these are their rounds, and once the harts before that place had
-- their turns
abbrev pub ready_for_turns : Shared → List (HartRound Hart) → ReservingPhase Hart ConsoleState
ready_for_turns s rs = record {
  harts = [];
  bytes = after s.memory.bytes (all_stores rs);
  console = s.console;
  reservations = committed_reservations 0 rs s.reservations;
  log = [];
}

abbrev pub ready_for : Shared → TurnPlace → List (HartRound Hart) → ReservingPhase Hart ConsoleState
ready_for s place rs = reserving_phase_from (words_of s.memory.code) place.budget place.round 0 (take place.hart rs) (ready_for_turns s rs)

-- what the hart sees at that place in its turn, where it begins the turn as h and these are the rounds of all harts
abbrev pub found_in : Shared → TurnPlace → Hart → List (HartRound Hart) → Option (Sight Hart)
found_in s place h rs =
    let there = ready_for s place rs in
    found_at s.memory.code place (reserving_turn_begun h there.bytes there.console there.reservations)

-- memory, the reservations and the console are those of this phase
pub record LeftBy (c : ReservingPhase Hart ConsoleState) (old new : SharedState) : Type 0 where
  pub pages : HasBytes old.pages c.bytes new.pages
  pub reservations : new.reservations ≡ c.reservations
  pub console : new.console.console ≡ c.console

-- harts whose rounds left these had their turns, of which the first one's would be this
abbrev pub HadTurns : Turn → List HartEnd → SharedState → SharedState → Type 0
HadTurns turn os old new =
    (logs : Bool) (m : Memory) (rs : List (HartRound Hart)) (c : ReservingPhase Hart ConsoleState) → AreEndsOf logs m rs os →
    c.bytes ≡ old.pages.memory.bytes → c.console ≡ old.console.console → c.reservations ≡ old.reservations →
    LeftBy (reserving_phase_from (words_of old.pages.memory.code) turn.budget turn.round turn.hart rs c) old new
