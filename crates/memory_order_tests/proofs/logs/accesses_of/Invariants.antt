use Rattle.std.proofs.Common.{◌≡◌, take}
use Rattle.memory_order_tests.proofs.logs.accesses_of.Given as goal

abbrev pub invariant-loop-index : goal.invariant-loop-index
invariant-loop-index l = l.accesses.items ≡ take l.index l.log
