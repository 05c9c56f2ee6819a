-- The states that a serial turn goes through.
use Rattle.std.specs.Prelude.{ℕ, zero, suc, if◌then◌else◌, List, [], ◌∷◌, Option}
use Rattle.round_schedule.specs.declared.access.Access.{Access}
use Rattle.round_schedule.specs.declared.access.Stepped.{Stepped}
use Rattle.round_schedule.specs.declared.access.Stepped.TheVariants.{Done, Waits, Stopped}
use Rattle.round_schedule.specs.Schedule.{Turn, Words, serial_next, turn_went}

-- by the answer of the next instruction: the state after it where it is done, and those after that; none where it waits or stops its hart
abbrev pub states_by : {H C : Type 0} → Stepped → (Option Access → Turn H C) → (Turn H C → List (Turn H C)) → List (Turn H C)
states_by (Done a) next rest = next a ∷ rest (next a)
states_by Waits next rest = []
states_by (Stopped code) next rest = []

-- the states after each of at most k further instructions of hart i's turn in round n
unfoldable pub turn_states : {H C : Type 0} → Words H C → ℕ → ℕ → ℕ → Turn H C → List (Turn H C)
turn_states w n i zero p = []
turn_states w n i (suc k) p =
    if w.stopped p.hart then [] else states_by (serial_next w n i p).answer (turn_went n i p (serial_next w n i p)) (turn_states w n i k)
