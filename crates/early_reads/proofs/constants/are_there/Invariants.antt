use Rattle.std.proofs.Common.{◌<◌, ◌≤◌, ◌==◌, ℕ, if◌then◌else◌, None, slice_index_or}
use Rattle.private_bytes.specs.Ahead.{Tells}
use Rattle.early_reads.proofs.constants.are_there.Given as goal

abbrev pub invariant-loop-k : goal.invariant-loop-k
invariant-loop-k l =
    (j : ℕ) → 1 ≤ j → j < l.k → Tells (slice_index_or l.told j None) (if j == l.register then l.value else slice_index_or l.before j None)
