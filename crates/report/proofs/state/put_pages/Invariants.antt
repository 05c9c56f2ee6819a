use Rattle.std.proofs.Common.{◌*◌, Ok}
use Rattle.report.specs.Pending.{Wrote, way}
use Rattle.report_lines.specs.Rows.{memory_rows}
use Rattle.report.proofs.state.put_pages.Given as goal

abbrev pub invariant-loop-page : goal.invariant-loop-page
invariant-loop-page g l = Wrote (memory_rows 0 l.pages.memory.bytes (256 * l.page)) (way (g.S.Sink.took l.fn.out) (g.S.Sink.failures l.fn.out) l.fn.line) (Ok tt) (way (g.S.Sink.took l.out) (g.S.Sink.failures l.out) l.line)
