use Rattle.std.proofs.Common.{◌≡◌, ℕ, max, if◌then◌else◌, slice_index, length}
use Rattle.pages.specs.Memory.{in_range}
use Rattle.memory_order.proofs.checking.bounds.raised_to.Given as goal

abbrev pub invariant-loop-k : goal.invariant-loop-k
invariant-loop-k l = record {
  length : length l.numbers ≡ 8;
  raised : (j : ℕ) → slice_index l.numbers j ≡ (if in_range l.first l.k j then max (slice_index l.initial.numbers j) (slice_index l.values j) else slice_index l.initial.numbers j);
}
