use Rattle.std.proofs.Common.{◌≡◌, ◌+◌, length}
use Rattle.gdb_answers.proofs.covering.count.Given as goal

abbrev pub invariant-loop-byte : goal.invariant-loop-byte
invariant-loop-byte l = l.count + length l._byte-iterator ≡ length l.covered
