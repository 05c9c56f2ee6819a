use Rattle.std.proofs.Common.{◌≡◌, drop}
use Rattle.early_reads.specs.Checking.{point_at}
use Rattle.early_reads.proofs.early_bytes.find.Given as goal

abbrev pub invariant-loop-index : goal.invariant-loop-index
invariant-loop-index l = point_at (drop l.index l.points) l.pc ≡ point_at l.points l.pc
