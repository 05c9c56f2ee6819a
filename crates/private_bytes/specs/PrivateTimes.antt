-- An operation on own bytes has one number, whenever it stands: so its least time is enough.
use Rattle.std.specs.Prelude.{◌≡◌, ℕ, ◌≤◌, Bool, true, List, Some}
use Rattle.pages.specs.Memory.{Memory}
use Rattle.hart_step.specs.DecodedCode.{decoded}
use Rattle.all_endings.specs.Earlier.{IsSized}
use Rattle.all_endings.specs.HartRuns.{IsPlaced}
use Rattle.all_endings.specs.Lowering.{IsLower}
use Rattle.all_endings.specs.RunStates.{Move, RunState}
use Rattle.all_endings.specs.StoreLists.{Stored}
use Rattle.private_bytes.specs.Owners.{is_private}
use Rattle.private_bytes.specs.PrivateMoves.{ActsApart, moved_privately}

-- of the moves by which an instruction touches own bytes the earliest leaves the lowest state
abbrev pub EarliestPrivateMoveIsLowest : Type 0
EarliestPrivateMoveIsLowest =
    (owns : ℕ → ℕ → Bool) (image : Memory) (h : ℕ) (m : List Stored) (opening : ℕ → ℕ) (a : RunState) (v w : Move) → IsSized a →
    decoded image a.pc ≡ Some v.instruction → decoded image a.pc ≡ Some w.instruction → is_private owns h v.access ≡ true → is_private owns h w.access ≡ true →
    ActsApart owns image h m opening (IsPlaced h m) a v → ActsApart owns image h m opening (IsPlaced h m) a w → v.time ≤ w.time →
    IsLower (moved_privately h m a v) (moved_privately h m a w)
