use Rattle.std.proofs.Common.{◌≤◌, ◌<◌, ℕ, slice_index, slice_index_or}
use Rattle.run_bounds.specs.declared.touched.TouchedByte.{TouchedByte}
use Rattle.hart_moves.proofs.repeating.are_seen.Given as goal

abbrev pub invariant-loop-k : goal.invariant-loop-k
invariant-loop-k l = (k : ℕ) (d : TouchedByte) → k < l.k → slice_index l.sources k ≤ (slice_index_or l.known k d).seen
