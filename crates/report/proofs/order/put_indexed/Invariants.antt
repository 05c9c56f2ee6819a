use Rattle.std.proofs.Common.{take, Ok}
use Rattle.report.specs.Order.{indexed_text}
use Rattle.report.specs.Pending.{Wrote, way}
use Rattle.report.proofs.order.put_indexed.Given as goal

abbrev pub invariant-loop-index : goal.invariant-loop-index
invariant-loop-index g l = Wrote (indexed_text l.trace.events (take l.index-index l.indexes)) (way (g.S.Sink.took l.fn.out) (g.S.Sink.failures l.fn.out) l.fn.line) (Ok tt) (way (g.S.Sink.took l.out) (g.S.Sink.failures l.out) l.line)
