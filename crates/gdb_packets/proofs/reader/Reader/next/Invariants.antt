use Rattle.gdb_packets.proofs.Going.{Passed}
use Rattle.gdb_packets.proofs.reader.Reader.next.Given as goal

abbrev pub invariant-loop-i : goal.invariant-loop-i
invariant-loop-i g l = Passed (g.S.Source.gave l.fn.src) l.fn.self (g.S.Source.gave l.src) l.self
