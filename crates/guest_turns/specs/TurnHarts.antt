-- The harts along the serial turns of a round: of each hart what it is before each instruction of its turn, and as the turn leaves it.
use Rattle.std.specs.Prelude.{◌≡◌, ℕ, suc, ◌-◌, List, [], ◌∷◌, length, drop, slice_get, slice_index, Some}
use Rattle.round_schedule.specs.Past.{parts_from, past_of, turn_of_waiting}
use Rattle.round_schedule.specs.Schedule.{HartRound, State, Words, began, committed, hart_rounds, joined, turn_of}

-- in the turns of a serial phase, from hart i on; one that has no turn is there once, as its part of the parallel phase left it
abbrev pub turns_in_phase : {H C : Type 0} → Words H C → ℕ → ℕ → List (HartRound H) → State H C → List (List H)
turns_in_phase w budget i [] s = []
turns_in_phase w budget i (r ∷ rs) s = turn_of_waiting w budget s i r ∷ turns_in_phase w budget (suc i) rs (joined s (turn_of w budget s i r))

-- in those of the next round
unfoldable pub turns_in_round : {H C : Type 0} → Words H C → ℕ → (ℕ → List ℕ) → State H C → List (List H)
turns_in_round w budget quotas s =
    let rs = hart_rounds w s.bytes (quotas s.rounds) s.harts in
    turns_in_phase w budget 0 rs (committed s rs)

-- they are what the past of a hart ends with, from the end of its part of the parallel phase on
abbrev pub TurnsEndThePast : (H C : Type 0) → Type 0
TurnsEndThePast H C =
    (w : Words H C) (budget : ℕ) (quotas : ℕ → List ℕ) (s : State H C) (i : ℕ) (h : H) → slice_get s.harts i ≡ Some h →
    slice_get (turns_in_round w budget quotas s) i
    ≡ Some (drop (length (parts_from w s.bytes (slice_index (quotas s.rounds) i) (began h)) - 1) (past_of w budget quotas s i))
