use Rattle.std.proofs.Common.{◌<◌, ℕ, slice_index_or}
use Rattle.own_moves.specs.Owned.{owns_of}
use Rattle.early_reads.specs.declared.early_point.EarlyPoint.{EarlyPoint}
use Rattle.early_reads.specs.declared.early_point.LateKinds.{LateKinds}
use Rattle.early_reads.specs.Checking.{IsRightAt}
use Rattle.early_reads.proofs.checking.is_right.Given as goal

abbrev pub invariant-loop-index : goal.invariant-loop-index
invariant-loop-index l =
    (k : ℕ) (d : EarlyPoint) → k < l.index → (late : LateKinds) → IsRightAt l.points (owns_of l.owned) l.pages.memory l.hart (slice_index_or l.points k d) late
