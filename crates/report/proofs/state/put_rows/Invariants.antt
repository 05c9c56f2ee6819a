use Rattle.std.proofs.Common.{Ok}
use Rattle.report.specs.Pending.{Wrote, way}
use Rattle.report.specs.Report.{output_rows}
use Rattle.report.proofs.state.put_rows.Given as goal

abbrev pub invariant-loop-row : goal.invariant-loop-row
invariant-loop-row g l = Wrote (output_rows l.output l.row) (way (g.S.Sink.took l.fn.out) (g.S.Sink.failures l.fn.out) l.fn.line) (Ok tt) (way (g.S.Sink.took l.out) (g.S.Sink.failures l.out) l.line)
