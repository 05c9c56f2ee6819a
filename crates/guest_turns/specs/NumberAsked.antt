-- Whether a hart asks for the number of a round, as it is found.
use Rattle.std.specs.Prelude.{◌≡◌, Bool, List}
use Rattle.pages.specs.Memory.{Memory}
use Rattle.round_schedule.specs.ReservingTurn.{ReservingPhase}
use Rattle.round_schedule.specs.Schedule.{HartRound}
use Rattle.hart_step.specs.declared.hart.Hart.{Hart}
use Rattle.hart_step.specs.Console.{ConsoleState}
use Rattle.hart_step.specs.Words.{words_of}
use Rattle.serial_phase.specs.Asking.{asks_in_reserving_phase}
use Rattle.serial_phase.specs.Forgetting.{asks_number}
use Rattle.serial_phase.specs.declared.shared.SharedState.{SharedState}
use Rattle.serial_phase.specs.declared.shared.Turn.{Turn}
use Rattle.hart_rounds.specs.declared.hart_end.HartEnd.{HartEnd}
use Rattle.guest_rounds.specs.HartEnds.{AreEndsOf}

-- whether one of the harts whose rounds left these asks in its turn, of which the first one's would be this
abbrev pub TellsAsking : Turn → List HartEnd → SharedState → Bool → Type 0
TellsAsking turn os old b =
    (logs : Bool) (m : Memory) (rs : List (HartRound Hart)) (c : ReservingPhase Hart ConsoleState) → AreEndsOf logs m rs os →
    c.bytes ≡ old.pages.memory.bytes → c.console ≡ old.console.console → c.reservations ≡ old.reservations →
    b ≡ asks_in_reserving_phase (words_of old.pages.memory.code) (asks_number old.pages.memory.code) turn.budget turn.round turn.hart rs c
