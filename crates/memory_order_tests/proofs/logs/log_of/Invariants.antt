use Rattle.std.proofs.Common.{◌≡◌, ◌+◌, length}
use Rattle.memory_order_tests.proofs.logs.log_of.Given as goal

abbrev pub invariant-loop-place : goal.invariant-loop-place
invariant-loop-place l = l.from + length l.accesses.items ≡ l.place
