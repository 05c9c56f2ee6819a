use Rattle.std.proofs.Common.{◌≡◌, ℕ, ◌+◌, ◌<◌, length, slice_index_or}
use Rattle.run_bounds.specs.declared.touched.TouchedByte.{TouchedByte}
use Rattle.run_bounds.specs.Touched.{known_at}
use Rattle.hart_states.proofs.reading.span_known.Given as goal

abbrev pub invariant-loop-k : goal.invariant-loop-k
invariant-loop-k l = record {
  size : length l.known ≡ 8;
  same : (k : ℕ) (d : TouchedByte) → k < l.k → slice_index_or l.known k d ≡ known_at l.bytes (l.address + k);
}
