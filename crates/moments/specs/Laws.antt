-- What ties moves and sights to the schedule, and what a hart sees to what it reads and writes.
use Rattle.std.specs.Prelude.{◌≡◌, ℕ, suc, ◌+◌, ◌<◌, true, if◌then◌else◌, List, [], ◌∷◌, ◌++◌, length, map, slice_get, slice_index, All, Option, Some, None}
use Rattle.pages.specs.Memory.{IsBytes, after}
use Rattle.round_schedule.specs.declared.access.Access.{Access}
use Rattle.round_schedule.specs.Accesses.{byte_read, byte_written, reads, writes}
use Rattle.round_schedule.specs.Past.{last_of, past_of}
use Rattle.round_schedule.specs.Schedule.{Words, State, Turn, hart_round_of, round_of, turn_from}
use Rattle.round_schedule.specs.Sound.{Sound}
use Rattle.moments.specs.Moves.{Move, events_left, moves_by, moves_of, sights_before}
use Rattle.moments.specs.Sights.{Sight, part_sights, sight_at, sights_of, turn_sights}

-- the accesses of a round's moves, in their order, are what the round adds to the trace
abbrev pub MovesLeaveTheTrace : (H C : Type 0) → Type 0
MovesLeaveTheTrace H C =
    (w : Words H C) (budget : ℕ) (quotas : ℕ → List ℕ) (s : State H C) →
    (round_of w budget quotas s).trace ≡ s.trace ++ events_left (s.rounds + 1) (moves_of w budget quotas s)

-- a move with this access, on these bytes: what it reads is what its hart saw, and afterwards its hart sees what it wrote, and else what it saw
pub record SeesAccess (before after : List ℕ) (a : Access) : Type 0 where
  pub size : length after ≡ length before
  pub within : (x : ℕ) → reads a x ≡ true → x < length before
  pub read : (x : ℕ) → reads a x ≡ true → byte_read a x ≡ slice_index before x
  pub written : (x : ℕ) → x < length before → slice_index after x ≡ (if writes a x then byte_written a x else slice_index before x)

abbrev pub Sees : List ℕ → List ℕ → Option Access → Type 0
Sees before after None = after ≡ before
Sees before after (Some a) = SeesAccess before after a

-- so it is of each move of a round
abbrev pub MovesReadWhatIsSeen : (H C : Type 0) → Type 0
MovesReadWhatIsSeen H C =
    (w : Words H C) → Sound w → (budget : ℕ) (quotas : ℕ → List ℕ) (s : State H C) → IsBytes s.bytes →
    All (λ (m : Move H). Sees m.before.bytes m.after.bytes m.access) (moves_of w budget quotas s)

-- what a hart is there is what it was by the past: so registers at a moment are those that a replay is asked for
abbrev pub SightsAreThePast : (H C : Type 0) → Type 0
SightsAreThePast H C =
    (w : Words H C) (budget : ℕ) (quotas : ℕ → List ℕ) (s : State H C) (i : ℕ) →
    map (λ (x : Sight H). x.hart) (sights_of w budget quotas s i) ≡ past_of w budget quotas s i

-- what a hart is and sees after each number of its instructions is what it is and sees before each of its moves of the round that are done, and
-- then once more at their end
pub record EndsMoves {H : Type 0} (ms : List (Move H)) (seen : List (Sight H)) : Type 0 where
  pub last : Sight H
  pub is : seen ≡ sights_before ms ++ last ∷ []

abbrev pub SightsAreBeforeMoves : (H C : Type 0) → Type 0
SightsAreBeforeMoves H C =
    (w : Words H C) (budget : ℕ) (quotas : ℕ → List ℕ) (s : State H C) (i : ℕ) (h : H) → slice_get s.harts i ≡ Some h →
    EndsMoves (moves_by i (moves_of w budget quotas s)) (sights_of w budget quotas s i)

-- what a hart is and sees at the end of its part, and of its turn, is what the schedule leaves there; and what it is and sees after fewer
-- instructions is what a part, or a turn, of so many ends with
pub record SightsEndInTheSchedule (H C : Type 0) : Type 0 where
  pub part : (w : Words H C) (bs : List ℕ) (quota : ℕ) (h : H) →
      last_of (part_sights w quota (record { hart = h; bytes = bs }))
      ≡ Some (record { hart = (hart_round_of w bs quota h).last.hart; bytes = after bs (hart_round_of w bs quota h).last.stores })
  pub turn : (w : Words H C) (n i k : ℕ) (p : Turn H C) → last_of (turn_sights w n i k p) ≡ Some (sight_at (turn_from w n i k p))
  pub shorter_part : (w : Words H C) (quota count : ℕ) (s : Sight H) → suc count < length (part_sights w quota s) →
      slice_get (part_sights w quota s) count ≡ last_of (part_sights w count s)
  pub shorter_turn : (w : Words H C) (n i k count : ℕ) (p : Turn H C) → suc count < length (turn_sights w n i k p) →
      slice_get (turn_sights w n i k p) count ≡ last_of (turn_sights w n i count p)
