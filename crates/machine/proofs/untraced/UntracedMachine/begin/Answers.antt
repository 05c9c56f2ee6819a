use Rattle.std.proofs.Common.{arith}
use Rattle.machine.proofs.untraced.UntracedMachine.begin.Goals as goal

pub invariant_of-result : goal.invariant_of-result
invariant_of-result c = record {
  harts = c.requires;
  few = omega arith;
}
