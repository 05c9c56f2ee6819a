use Rattle.std.proofs.Common.{◌≡◌, ◌++◌, length}
use Rattle.host_io.proofs.source.read_all.Given as goal

abbrev pub invariant-loop-i : goal.invariant-loop-i
invariant-loop-i g l = record {
  gave : g.S.Source.gave l.src ≡ g.S.Source.gave l.fn.src ++ l.bytes.items;
  ends : g.S.Source.ends l.src ≡ g.S.Source.ends l.fn.src;
  failures : g.S.Source.failures l.src ≡ g.S.Source.failures l.fn.src;
  room : length l.piece ≡ 4096;
}
