use Rattle.gdb_packets.proofs.Going.{Began}
use Rattle.gdb_packets.proofs.reader.Reader.frame.Given as goal

abbrev pub invariant-loop-i : goal.invariant-loop-i
invariant-loop-i g l = Began (g.S.Source.gave l.fn.src) l.fn.self (g.S.Source.gave l.src) l.self l.draft
