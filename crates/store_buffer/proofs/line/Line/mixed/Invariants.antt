use Rattle.std.proofs.Common.{◌≡◌, length}
use Rattle.store_buffer.proofs.LineNumbers.{Mixed}
use Rattle.store_buffer.proofs.line.Line.mixed.Given as goal

abbrev pub invariant-loop-k : goal.invariant-loop-k
invariant-loop-k l = record {
  size : length l.bytes ≡ 8;
  mixed : Mixed l.self l.index l.number l.k l.bytes;
}
