-- The moves of a round in the order of the trace: what a hart is and sees before each of them and after it.
use Rattle.std.specs.Prelude.{ℕ, zero, suc, ◌==◌, Bool, if◌then◌else◌, List, [], ◌∷◌, ◌++◌, filter, Option, Some, None, option_to_list}
use Rattle.std.specs.List.{flat_map}
use Rattle.round_schedule.specs.declared.access.Access.{Access}
use Rattle.round_schedule.specs.declared.access.Stepped.{Stepped}
use Rattle.round_schedule.specs.declared.access.Stepped.TheVariants.{Done, Waits, Stopped}
use Rattle.round_schedule.specs.declared.event.Event.{Event}
use Rattle.round_schedule.specs.declared.event.Phase.{Phase}
use Rattle.round_schedule.specs.declared.event.Phase.TheVariants.{Parallel, Serial}
use Rattle.round_schedule.specs.Events.{events_of}
use Rattle.round_schedule.specs.Schedule.{Words, StepOutcome, SerialOutcome, HartRound, State, Turn, committed, first_or_zero, hart_rounds, joined, rest_of, serial_next, turn_halted, turn_of, turn_went}
use Rattle.moments.specs.Sights.{Sight, next_seen, seen_after, seen_still, sight_at, turn_start}

-- a move of a hart: an instruction that is done, or one that stops it, with the code, and leaves no access. A word before which a hart waits is
-- no move: it is one in the hart's turn
pub record Move (H : Type 0) : Type 0 where
  pub hart : ℕ
  pub phase : Phase
  pub before : Sight H
  pub access : Option Access
  pub stop : Option ℕ
  pub after : Sight H

-- ---- a hart's part of the parallel phase

abbrev pub went_by : {H : Type 0} → ℕ → Sight H → StepOutcome H → Option Access → Move H
went_by i s o a = record { hart = i; phase = Parallel; before = s; access = a; stop = None; after = seen_after s o }

abbrev pub stopped_by : {H : Type 0} → ℕ → ℕ → Sight H → StepOutcome H → Move H
stopped_by code i s o = record { hart = i; phase = Parallel; before = s; access = None; stop = Some code; after = seen_still s o }

abbrev pub moved_by : {H : Type 0} → ℕ → Stepped → Sight H → StepOutcome H → (Sight H → List (Move H)) → List (Move H)
moved_by i (Done a) s o f = went_by i s o a ∷ f (seen_after s o)
moved_by i Waits s o f = []
moved_by i (Stopped code) s o f = stopped_by code i s o ∷ []

-- of hart i, which may do n further instructions
unfoldable pub part_moves : {H C : Type 0} → Words H C → ℕ → ℕ → Sight H → List (Move H)
part_moves w i zero s = []
part_moves w i (suc n) s = if w.stopped s.hart then [] else moved_by i (next_seen w s).answer s (next_seen w s) (part_moves w i n)

-- of harts i, i + 1, .., each on the same bytes
abbrev pub parts_moves : {H C : Type 0} → Words H C → List ℕ → List ℕ → ℕ → List H → List (Move H)
parts_moves w bs qs i [] = []
parts_moves w bs qs i (h ∷ hs) = part_moves w i (first_or_zero qs) (record { hart = h; bytes = bs }) ++ parts_moves w bs (rest_of qs) (suc i) hs

-- ---- a serial turn

abbrev pub took : {H C : Type 0} → ℕ → ℕ → Turn H C → SerialOutcome H C → Option Access → Move H
took n i p o a = record { hart = i; phase = Serial; before = sight_at p; access = a; stop = None; after = sight_at (turn_went n i p o a) }

abbrev pub stopped_at : {H C : Type 0} → ℕ → ℕ → Turn H C → SerialOutcome H C → Move H
stopped_at code i p o = record { hart = i; phase = Serial; before = sight_at p; access = None; stop = Some code; after = sight_at (turn_halted p o) }

abbrev pub taken_by : {H C : Type 0} → ℕ → ℕ → Stepped → Turn H C → SerialOutcome H C → (Turn H C → List (Move H)) → List (Move H)
taken_by n i (Done a) p o f = took n i p o a ∷ f (turn_went n i p o a)
taken_by n i Waits p o f = []
taken_by n i (Stopped code) p o f = stopped_at code i p o ∷ []

-- of hart i in round n, at most k further instructions
unfoldable pub turn_moves : {H C : Type 0} → Words H C → ℕ → ℕ → ℕ → Turn H C → List (Move H)
turn_moves w n i zero p = []
turn_moves w n i (suc k) p = if w.stopped p.hart then [] else taken_by n i (serial_next w n i p).answer p (serial_next w n i p) (turn_moves w n i k)

-- of the turns from hart i on
abbrev pub turns_moves : {H C : Type 0} → Words H C → ℕ → ℕ → List (HartRound H) → State H C → List (Move H)
turns_moves w budget i [] s = []
turns_moves w budget i (r ∷ rs) s =
    turn_moves w s.rounds i (if r.waits then budget else 0) (turn_start s r) ++ turns_moves w budget (suc i) rs (joined s (turn_of w budget s i r))

-- ---- a round

abbrev pub moves_over : {H C : Type 0} → Words H C → ℕ → List ℕ → State H C → List (HartRound H) → List (Move H)
moves_over w budget qs s rs = parts_moves w s.bytes qs 0 s.harts ++ turns_moves w budget 0 rs (committed s rs)

-- the moves of the next round: the parts of the parallel phase hart by hart, and, after the commit, the turns hart by hart
unfoldable pub moves_of : {H C : Type 0} → Words H C → ℕ → (ℕ → List ℕ) → State H C → List (Move H)
moves_of w budget quotas s = moves_over w budget (quotas s.rounds) s (hart_rounds w s.bytes (quotas s.rounds) s.harts)

-- the events that moves leave in round n
abbrev pub left_by : {H : Type 0} → ℕ → Move H → List Event
left_by n m = events_of n m.hart m.phase (option_to_list m.access)

abbrev pub events_left : {H : Type 0} → ℕ → List (Move H) → List Event
events_left n ms = flat_map (left_by n) ms

-- the moves of one hart
abbrev pub is_of : {H : Type 0} → ℕ → Move H → Bool
is_of i m = m.hart == i

abbrev pub moves_by : {H : Type 0} → ℕ → List (Move H) → List (Move H)
moves_by i ms = filter (is_of i) ms

-- what is seen before the moves that are done
abbrev pub sight_before : {H : Type 0} → Move H → Option ℕ → List (Sight H)
sight_before m None = m.before ∷ []
sight_before m (Some code) = []

abbrev pub sights_before : {H : Type 0} → List (Move H) → List (Sight H)
sights_before [] = []
sights_before (m ∷ ms) = sight_before m m.stop ++ sights_before ms
