-- Whether a hart asks for the number of a round: in a turn, a serial phase, a round, a run. `asks` says of a hart and memory whether
-- its next instruction does, in a serial phase.
use Rattle.std.specs.Prelude.{◌≡◌, ℕ, zero, suc, ◌+◌, ◌||◌, Bool, false, if◌then◌else◌, List, [], ◌∷◌, ◌++◌, length, Option, option_to_list}
use Rattle.pages.specs.Memory.{IsBytes, after}
use Rattle.round_schedule.specs.declared.access.Access.{Access}
use Rattle.round_schedule.specs.declared.access.Stepped.{Stepped}
use Rattle.round_schedule.specs.declared.access.Stepped.TheVariants.{Done, Waits, Stopped}
use Rattle.round_schedule.specs.ByReservations.{Reserving, reserving_phase_of}
use Rattle.round_schedule.specs.Schedule.{HartRound, SerialOutcome, State, Turn, Words, committed, hart_rounds, joined, run_of, serial_next, turn_of, turn_went}
use Rattle.round_schedule.specs.Sound.{Sound}
use Rattle.round_schedule.specs.ReservingTurn.{ReservingPhase, ReservingTurn, reserving_phase_joined, reserving_turn_next, reserving_turn_of, updated_by}
use Rattle.round_schedule.specs.Reservations.{Tied}

-- by the answer of an instruction: where it is done, what is said of what comes after it
abbrev pub asks_after : Stepped → (Option Access → Bool) → Bool
asks_after (Done a) rest = rest a
asks_after Waits rest = false
asks_after (Stopped code) rest = false

-- whether one of the next k instructions of hart i's turn in round n does
unfoldable pub asks_in_turn : {H C : Type 0} → Words H C → (H → List ℕ → Bool) → ℕ → ℕ → ℕ → Turn H C → Bool
asks_in_turn w asks n i zero p = false
asks_in_turn w asks n i (suc k) p =
    if w.stopped p.hart then false
    else (asks p.hart p.bytes || asks_after (serial_next w n i p).answer (λ a. asks_in_turn w asks n i k (turn_went n i p (serial_next w n i p) a)))

-- whether a hart does in the turns of a serial phase, from hart i on
abbrev pub asks_in_phase : {H C : Type 0} → Words H C → (H → List ℕ → Bool) → ℕ → ℕ → List (HartRound H) → State H C → Bool
asks_in_phase w asks budget i [] s = false
asks_in_phase w asks budget i (r ∷ rs) s =
    asks_in_turn w asks s.rounds i (if r.waits then budget else 0) (record { hart = r.last.hart; bytes = s.bytes; console = s.console; trace = s.trace })
    || asks_in_phase w asks budget (suc i) rs (joined s (turn_of w budget s i r))

-- whether a hart does in the next round
unfoldable pub asks_in_round : {H C : Type 0} → Words H C → (H → List ℕ → Bool) → ℕ → (ℕ → List ℕ) → State H C → Bool
asks_in_round w asks budget quotas s =
    let rs = hart_rounds w s.bytes (quotas s.rounds) s.harts in
    asks_in_phase w asks budget 0 rs (committed s rs)

-- whether a hart does in the next n rounds
unfoldable pub asks_in_run : {H C : Type 0} → Words H C → (H → List ℕ → Bool) → ℕ → (ℕ → List ℕ) → ℕ → State H C → Bool
asks_in_run w asks budget quotas zero s = false
asks_in_run w asks budget quotas (suc n) s = asks_in_run w asks budget quotas n s || asks_in_round w asks budget quotas (run_of w budget quotas n s)

-- ---- the same over a list of reservations

-- the state of a turn after an instruction that is done
abbrev pub reserving_turn_went : {H C : Type 0} → ℕ → ReservingTurn H C → SerialOutcome H C → Option Access → ReservingTurn H C
reserving_turn_went i d o a = record { hart = o.hart; bytes = after d.bytes o.stores; console = o.console; reservations = updated_by i a d.reservations; log = d.log ++ option_to_list a }

unfoldable pub asks_in_reserving_turn : {H C : Type 0} → Words H C → (H → List ℕ → Bool) → ℕ → ℕ → ℕ → ReservingTurn H C → Bool
asks_in_reserving_turn w asks n i zero d = false
asks_in_reserving_turn w asks n i (suc k) d =
    if w.stopped d.hart then false
    else (asks d.hart d.bytes || asks_after (reserving_turn_next w n i d).answer (λ a. asks_in_reserving_turn w asks n i k (reserving_turn_went i d (reserving_turn_next w n i d) a)))

abbrev pub asks_in_reserving_phase : {H C : Type 0} → Words H C → (H → List ℕ → Bool) → ℕ → ℕ → ℕ → List (HartRound H) → ReservingPhase H C → Bool
asks_in_reserving_phase w asks budget n i [] s = false
asks_in_reserving_phase w asks budget n i (r ∷ rs) s =
    asks_in_reserving_turn w asks n i (if r.waits then budget else 0) (record { hart = r.last.hart; bytes = s.bytes; console = s.console; reservations = s.reservations; log = [] })
    || asks_in_reserving_phase w asks budget n (suc i) rs (reserving_phase_joined s (reserving_turn_of w budget n s i r.last.hart r.waits))

unfoldable pub asks_in_reserving_round : {H C : Type 0} → Words H C → (H → List ℕ → Bool) → ℕ → (ℕ → List ℕ) → Reserving H C → Bool
asks_in_reserving_round w asks budget quotas m =
    let rs = hart_rounds w m.state.bytes (quotas m.state.rounds) m.state.harts in
    asks_in_reserving_phase w asks budget (m.state.rounds + 1) 0 rs (reserving_phase_of m rs)

-- where the list is what the trace says, it makes no difference which of the two is looked at
abbrev pub AskingByReservations : (H C : Type 0) → Type 0
AskingByReservations H C =
    (w : Words H C) (asks : H → List ℕ → Bool) (budget : ℕ) (quotas : ℕ → List ℕ) (m : Reserving H C) →
    Sound w → IsBytes m.state.bytes → Tied m.reservations m.state.trace → length m.reservations ≡ length m.state.harts →
    asks_in_reserving_round w asks budget quotas m ≡ asks_in_round w asks budget quotas m.state
