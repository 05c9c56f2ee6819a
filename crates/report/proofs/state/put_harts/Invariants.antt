use Rattle.std.proofs.Common.{take, Ok}
use Rattle.report.specs.Pending.{Wrote, way}
use Rattle.report.specs.Report.{harts_text}
use Rattle.report.proofs.state.put_harts.Given as goal

abbrev pub invariant-loop-number : goal.invariant-loop-number
invariant-loop-number g l = Wrote (harts_text 0 (take l.number l.harts)) (way (g.S.Sink.took l.fn.out) (g.S.Sink.failures l.fn.out) l.fn.line) (Ok tt) (way (g.S.Sink.took l.out) (g.S.Sink.failures l.out) l.line)
