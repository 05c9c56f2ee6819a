-- The harts along the serial turns of a round, as they are found: over a list of reservations, turn by turn.
use Rattle.std.specs.Prelude.{◌≡◌, ℕ, zero, suc, Bool, if◌then◌else◌, List, [], ◌∷◌, ◌++◌, length}
use Rattle.pages.specs.Memory.{Memory}
use Rattle.round_schedule.specs.declared.access.Stepped.{Stepped}
use Rattle.round_schedule.specs.declared.access.Stepped.TheVariants.{Done, Waits, Stopped}
use Rattle.round_schedule.specs.Schedule.{HartRound, SerialOutcome, Words}
use Rattle.round_schedule.specs.ReservingTurn.{ReservingPhase, ReservingTurn, reserving_phase_joined, reserving_turn_next, reserving_turn_of}
use Rattle.serial_phase.specs.Asking.{reserving_turn_went}
use Rattle.hart_step.specs.declared.hart.Hart.{Hart}
use Rattle.hart_step.specs.Console.{ConsoleState}
use Rattle.hart_step.specs.Words.{words_of}
use Rattle.serial_phase.specs.Phase.{TakesTurn, turn_done}
use Rattle.serial_phase.specs.declared.shared.SharedState.{SharedState}
use Rattle.serial_phase.specs.declared.shared.Turn.{Turn}
use Rattle.hart_rounds.specs.declared.hart_end.HartEnd.{HartEnd}
use Rattle.guest_turns.specs.Asked.{reserving_turn_begun}
use Rattle.guest_rounds.specs.HartEnds.{AreEndsOf}

abbrev pub by_reserving_answer : {H C : Type 0} → ℕ → Stepped → ReservingTurn H C → SerialOutcome H C → (ReservingTurn H C → List H) → List H
by_reserving_answer i (Done a) d o f = d.hart ∷ f (reserving_turn_went i d o a)
by_reserving_answer i Waits d o f = o.hart ∷ []
by_reserving_answer i (Stopped code) d o f = o.hart ∷ []

-- in at most k further instructions of hart i's turn in round n
unfoldable pub reserving_turns_from : {H C : Type 0} → Words H C → ℕ → ℕ → ℕ → ReservingTurn H C → List H
reserving_turns_from w n i zero d = d.hart ∷ []
reserving_turns_from w n i (suc k) d =
    if w.stopped d.hart then d.hart ∷ [] else by_reserving_answer i (reserving_turn_next w n i d).answer d (reserving_turn_next w n i d) (reserving_turns_from w n i k)

-- in the turns of a serial phase, from hart i on
abbrev pub turns_in_reserving_phase : {H C : Type 0} → Words H C → ℕ → ℕ → ℕ → List (HartRound H) → ReservingPhase H C → List (List H)
turns_in_reserving_phase w budget n i [] s = []
turns_in_reserving_phase w budget n i (r ∷ rs) s =
    reserving_turns_from w n i (if r.waits then budget else 0) (record { hart = r.last.hart; bytes = s.bytes; console = s.console; reservations = s.reservations; log = [] })
    ∷ turns_in_reserving_phase w budget n (suc i) rs (reserving_phase_joined s (reserving_turn_of w budget n s i r.last.hart r.waits))

-- the turn is done; the harts before its instructions were added to those, and the hart is as it leaves it
pub record WalksTurn (turn : Turn) (h : Hart) (s : SharedState) (old : List Hart) (g : Hart) (t : SharedState) (new : List Hart) : Type 0 where
  pub harts : new ++ g ∷ [] ≡ old ++ reserving_turns_from (words_of s.pages.memory.code) turn.round turn.hart turn.budget
      (reserving_turn_begun h s.pages.memory.bytes s.console.console s.reservations)
  pub taken : TakesTurn (turn_done turn h s) g s t
  pub reservations : length t.reservations ≡ length s.reservations

-- the harts along the turns of those whose rounds left these, of which the first one's turn would be this, are added
abbrev pub AddsTurns : Turn → List HartEnd → SharedState → List (List Hart) → List (List Hart) → Type 0
AddsTurns turn os s old new =
    (logs : Bool) (m : Memory) (rs : List (HartRound Hart)) (c : ReservingPhase Hart ConsoleState) → AreEndsOf logs m rs os →
    c.bytes ≡ s.pages.memory.bytes → c.console ≡ s.console.console → c.reservations ≡ s.reservations →
    new ≡ old ++ turns_in_reserving_phase (words_of s.pages.memory.code) turn.budget turn.round turn.hart rs c

-- ---- shown to a visitor, of whom that is what it knows

-- a turn of n instructions is done, and the hart is as it leaves it; the harts before its instructions were shown
pub record ShowsTurn {V : Type 0} (knows : V → V → List (List Hart) → List Hart → Type 0) (turn : Turn) (h : Hart) (s : SharedState) (v : V) (n : ℕ) (g : Hart) (t : SharedState) (w : V) : Type 0 where
  pub along : List Hart
  pub count : length along ≡ n
  pub walks : WalksTurn turn h s [] g t along
  pub shown : (first : V) (turns : List (List Hart)) → length turns ≡ turn.hart → knows first v turns [] → knows first w turns along

-- the harts along the turns of those whose rounds left these, of which the first one's turn would be this, were shown
pub record ShowsTurns {V : Type 0} (knows : V → V → List (List Hart) → List Hart → Type 0) (turn : Turn) (os : List HartEnd) (s : SharedState) (v w : V) : Type 0 where
  pub along : List (List Hart)
  pub adds : AddsTurns turn os s [] along
  pub shown : (first : V) (turns : List (List Hart)) → length turns ≡ turn.hart → knows first v turns [] → knows first w (turns ++ along) []
