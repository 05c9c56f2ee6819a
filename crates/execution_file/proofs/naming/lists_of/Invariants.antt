use Rattle.std.proofs.Common.{◌≡◌, ℕ, ◌<◌, get_or, length}
use Rattle.execution_file.specs.declared.operations.Operations.{Operations}
use Rattle.execution_file.specs.Sorting.{IsEmpty}
use Rattle.execution_file.proofs.naming.lists_of.Given as goal

abbrev pub invariant-loop-hart : goal.invariant-loop-hart
invariant-loop-hart l = record {
  count : length l.all.items ≡ l._hart;
  empty : (h : ℕ) (d : Operations) → h < l._hart → IsEmpty (get_or l.all.items h d);
}
