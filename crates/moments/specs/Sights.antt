-- What a hart is and sees within a round: in its part of the parallel phase memory as the round began, under its own stores; in its serial turn
-- memory itself.
use Rattle.std.specs.Prelude.{ℕ, zero, suc, Bool, true, false, if◌then◌else◌, List, [], ◌∷◌, slice_get, slice_index, Option, Some}
use Rattle.pages.specs.Memory.{after}
use Rattle.round_schedule.specs.declared.access.Stepped.{Stepped}
use Rattle.round_schedule.specs.declared.access.Stepped.TheVariants.{Done, Waits, Stopped}
use Rattle.round_schedule.specs.Past.{before_turn, goes_on_with}
use Rattle.round_schedule.specs.Schedule.{Words, StepOutcome, SerialOutcome, HartRound, State, Turn, hart_rounds, serial_next, turn_halted, turn_went}

-- a hart, and memory as it sees it
pub record Sight (H : Type 0) : Type 0 where
  pub hart : H
  pub bytes : List ℕ

-- ---- in its part of the parallel phase

-- what its next instruction leaves
abbrev pub next_seen : {H C : Type 0} → Words H C → Sight H → StepOutcome H
next_seen w s = w.step s.hart s.bytes

-- after an instruction that is done it sees its stores; after one that stops it, or waits, it sees what it saw
abbrev pub seen_after : {H : Type 0} → Sight H → StepOutcome H → Sight H
seen_after s o = record { hart = o.hart; bytes = after s.bytes o.stores }

abbrev pub seen_still : {H : Type 0} → Sight H → StepOutcome H → Sight H
seen_still s o = record s { hart = o.hart }

abbrev pub part_by : {H : Type 0} → Stepped → Sight H → StepOutcome H → (Sight H → List (Sight H)) → List (Sight H)
part_by (Done a) s o f = s ∷ f (seen_after s o)
part_by Waits s o f = seen_still s o ∷ []
part_by (Stopped code) s o f = seen_still s o ∷ []

-- after 0, 1, 2, .. of at most n further instructions
unfoldable pub part_sights : {H C : Type 0} → Words H C → ℕ → Sight H → List (Sight H)
part_sights w zero s = s ∷ []
part_sights w (suc n) s = if w.stopped s.hart then s ∷ [] else part_by (next_seen w s).answer s (next_seen w s) (part_sights w n)

-- ---- in its serial turn

abbrev pub sight_at : {H C : Type 0} → Turn H C → Sight H
sight_at p = record { hart = p.hart; bytes = p.bytes }

abbrev pub turn_by : {H C : Type 0} → ℕ → ℕ → Stepped → Turn H C → SerialOutcome H C → (Turn H C → List (Sight H)) → List (Sight H)
turn_by n i (Done a) p o f = sight_at p ∷ f (turn_went n i p o a)
turn_by n i Waits p o f = sight_at (turn_halted p o) ∷ []
turn_by n i (Stopped code) p o f = sight_at (turn_halted p o) ∷ []

-- after 0, 1, 2, .. of at most k further instructions of hart i's turn in round n
unfoldable pub turn_sights : {H C : Type 0} → Words H C → ℕ → ℕ → ℕ → Turn H C → List (Sight H)
turn_sights w n i zero p = sight_at p ∷ []
turn_sights w n i (suc k) p = if w.stopped p.hart then sight_at p ∷ [] else turn_by n i (serial_next w n i p).answer p (serial_next w n i p) (turn_sights w n i k)

-- the turn of a hart in this state of the serial phase
abbrev pub turn_start : {H C : Type 0} → State H C → HartRound H → Turn H C
turn_start s r = record { hart = r.last.hart; bytes = s.bytes; console = s.console; trace = s.trace }

-- ---- in a round

-- a hart that waits goes on with its turn, which begins after the commit and the turns of the harts before it; another one is done
abbrev pub and_then : {H : Type 0} → Bool → List (Sight H) → List (Sight H) → List (Sight H)
and_then true part turn = goes_on_with part turn
and_then false part turn = part

abbrev pub of_hart : {H C : Type 0} → Words H C → ℕ → ℕ → State H C → List (HartRound H) → ℕ → Option H → Option (HartRound H) → List (Sight H)
of_hart w budget quota s rs i (Some h) (Some r) =
    let begun = before_turn w budget s rs i in
    and_then r.waits (part_sights w quota (record { hart = h; bytes = s.bytes })) (turn_sights w begun.rounds i budget (turn_start begun r))
of_hart w budget quota s rs i _ _ = []

abbrev pub sights_over : {H C : Type 0} → Words H C → ℕ → List ℕ → State H C → List (HartRound H) → ℕ → List (Sight H)
sights_over w budget qs s rs i = of_hart w budget (slice_index qs i) s rs i (slice_get s.harts i) (slice_get rs i)

-- hart i after 0, 1, 2, .. of the instructions that it does in the next round; there are none where there is no such hart
unfoldable pub sights_of : {H C : Type 0} → Words H C → ℕ → (ℕ → List ℕ) → State H C → ℕ → List (Sight H)
sights_of w budget quotas s i = sights_over w budget (quotas s.rounds) s (hart_rounds w s.bytes (quotas s.rounds) s.harts) i

-- hart i after the first `count` of them; none where there is no such hart or where it does fewer
abbrev pub sight_after : {H C : Type 0} → Words H C → ℕ → (ℕ → List ℕ) → State H C → ℕ → ℕ → Option (Sight H)
sight_after w budget quotas s i count = slice_get (sights_of w budget quotas s i) count
