-- A hart within a round: what it was after each number of the instructions that it did in it.
use Rattle.std.specs.Prelude.{◌≡◌, ℕ, zero, suc, if◌then◌else◌, List, [], ◌∷◌, ◌++◌, slice_get, slice_index, take, Option, Some, None, option_to_list}
use Rattle.pages.specs.Memory.{after}
use Rattle.round_schedule.specs.declared.access.Access.{Access}
use Rattle.round_schedule.specs.declared.access.Stepped.{Stepped}
use Rattle.round_schedule.specs.declared.access.Stepped.TheVariants.{Done, Waits, Stopped}
use Rattle.round_schedule.specs.declared.event.Phase.TheVariants.{Serial}
use Rattle.round_schedule.specs.Events.{events_of}
use Rattle.round_schedule.specs.Schedule.{Words, StepOutcome, SerialOutcome, Progress, HartRound, State, Turn, began, went, next_of, hart_rounds, committed, serial_next, serial_from, round_of}

-- ---- in the parallel phase: the hart after 0, 1, 2, .. instructions; the last one is the hart at the phase's end, stop included

abbrev pub by_answer : {H : Type 0} → Stepped → Progress H → StepOutcome H → (Progress H → List H) → List H
by_answer (Done a) p o f = p.hart ∷ f (went p o a)
by_answer Waits p o f = o.hart ∷ []
by_answer (Stopped code) p o f = o.hart ∷ []

unfoldable pub parts_from : {H C : Type 0} → Words H C → List ℕ → ℕ → Progress H → List H
parts_from w bs zero p = p.hart ∷ []
parts_from w bs (suc n) p = if w.stopped p.hart then p.hart ∷ [] else by_answer (next_of w bs p).answer p (next_of w bs p) (parts_from w bs n)

-- ---- the same in a serial turn

abbrev pub gone : {H C : Type 0} → ℕ → ℕ → Option Access → Turn H C → SerialOutcome H C → Turn H C
gone n i a p o = record { hart = o.hart; bytes = after p.bytes o.stores; console = o.console; trace = p.trace ++ events_of n i Serial (option_to_list a) }

abbrev pub by_turn : {H C : Type 0} → ℕ → ℕ → Stepped → Turn H C → SerialOutcome H C → (Turn H C → List H) → List H
by_turn n i (Done a) p o f = p.hart ∷ f (gone n i a p o)
by_turn n i Waits p o f = o.hart ∷ []
by_turn n i (Stopped code) p o f = o.hart ∷ []

unfoldable pub turns_from : {H C : Type 0} → Words H C → ℕ → ℕ → ℕ → Turn H C → List H
turns_from w n i zero p = p.hart ∷ []
turns_from w n i (suc k) p = if w.stopped p.hart then p.hart ∷ [] else by_turn n i (serial_next w n i p).answer p (serial_next w n i p) (turns_from w n i k)

-- ---- in a round

-- the harts of the second list in place of the last of the first, at which its turn begins
abbrev pub goes_on_with : {H : Type 0} → List H → List H → List H
goes_on_with [] ys = ys
goes_on_with (x ∷ []) ys = ys
goes_on_with (x ∷ y ∷ xs) ys = x ∷ goes_on_with (y ∷ xs) ys

-- the state in which hart i's turn begins: the commit and the turns of the harts before it are done
abbrev pub before_turn : {H C : Type 0} → Words H C → ℕ → State H C → List (HartRound H) → ℕ → State H C
before_turn w budget s rs i = serial_from w budget 0 (take i rs) (committed s rs)

abbrev pub turn_of_waiting : {H C : Type 0} → Words H C → ℕ → State H C → ℕ → HartRound H → List H
turn_of_waiting w budget s i r = turns_from w s.rounds i (if r.waits then budget else 0) (record { hart = r.last.hart; bytes = s.bytes; console = s.console; trace = s.trace })

-- hart i after each number of the instructions that it does in a round that it begins as h, where its part of the parallel phase is r
abbrev pub in_round : {H C : Type 0} → Words H C → ℕ → ℕ → State H C → List (HartRound H) → ℕ → Option H → Option (HartRound H) → List H
in_round w budget quota s rs i (Some h) (Some r) = goes_on_with (parts_from w s.bytes quota (began h)) (turn_of_waiting w budget (before_turn w budget s rs i) i r)
in_round w budget quota s rs i _ _ = []

-- the same in the next round; there are none where there is no such hart
abbrev pub past_over : {H C : Type 0} → Words H C → ℕ → List ℕ → State H C → List (HartRound H) → ℕ → List H
past_over w budget qs s rs i = in_round w budget (slice_index qs i) s rs i (slice_get s.harts i) (slice_get rs i)

unfoldable pub past_of : {H C : Type 0} → Words H C → ℕ → (ℕ → List ℕ) → State H C → ℕ → List H
past_of w budget quotas s i = past_over w budget (quotas s.rounds) s (hart_rounds w s.bytes (quotas s.rounds) s.harts) i

-- hart i after the first `count` instructions that it does in the next round; none where there is no such hart or where it does fewer
abbrev pub hart_after : {H C : Type 0} → Words H C → ℕ → (ℕ → List ℕ) → State H C → ℕ → ℕ → Option H
hart_after w budget quotas s i count = slice_get (past_of w budget quotas s i) count

-- ---- what ties this to the schedule

abbrev pub last_of : {H : Type 0} → List H → Option H
last_of [] = None
last_of (x ∷ []) = Some x
last_of (x ∷ y ∷ xs) = last_of (y ∷ xs)

-- the last is the hart at the round's end
abbrev pub PastEndsInRound : (H C : Type 0) → Type 0
PastEndsInRound H C =
    (w : Words H C) (budget : ℕ) (quotas : ℕ → List ℕ) (s : State H C) (i : ℕ) → last_of (past_of w budget quotas s i) ≡ slice_get (round_of w budget quotas s).harts i
