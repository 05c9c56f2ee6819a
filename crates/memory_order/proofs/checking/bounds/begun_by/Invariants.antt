use Rattle.std.proofs.Common.{◌≡◌, ℕ, if◌then◌else◌, slice_index, length}
use Rattle.pages.specs.Memory.{in_range}
use Rattle.memory_order.proofs.checking.bounds.begun_by.Given as goal

abbrev pub invariant-loop-k : goal.invariant-loop-k
invariant-loop-k l = record {
  length : length l.numbers ≡ 8;
  written : (j : ℕ) → slice_index l.numbers j ≡ (if in_range 0 l.k j then slice_index l.others j else slice_index l.initial.numbers j);
}
