use Rattle.std.proofs.Common.{◌≡◌, ℕ, ◌<◌, get_or, length}
use Rattle.execution_file.specs.declared.operations.Operations.{Operations}
use Rattle.execution_file.specs.Sorting.{AreFirst}
use Rattle.execution_file.proofs.naming.operations_of.Given as goal

abbrev pub invariant-loop-index : goal.invariant-loop-index
invariant-loop-index l = record {
  harts : length l.all.items ≡ 256;
  each : (h : ℕ) → h < 256 → (d : Operations) → AreFirst l.events l.index h (get_or l.all.items h d);
}
