use Rattle.std.proofs.Common.{◌%◌, slice_index}
use Rattle.memory_order.specs.Checking.{RaisesBytes}
use Rattle.memory_order.proofs.checking.bounds.raise_to.Given as goal

abbrev pub invariant-loop-k : goal.invariant-loop-k
invariant-loop-k l = RaisesBytes l.initial.bounds l.bounds l.owner l.address l.k (λ x. slice_index l.values (x % 8))
