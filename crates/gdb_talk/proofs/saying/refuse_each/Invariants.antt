use Rattle.gdb_talk.specs.Serving.{Refused}
use Rattle.gdb_talk.proofs.saying.refuse_each.Given as goal

abbrev pub invariant-loop-i : goal.invariant-loop-i
invariant-loop-i g l = Refused l.fn.number (g.S.Source.gave l.fn.src) (g.S.Source.gave l.src) (g.K.Sink.took l.fn.out) (g.K.Sink.took l.out) l.reader
