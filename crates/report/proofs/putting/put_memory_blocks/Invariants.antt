use Rattle.std.proofs.Common.{◌*◌, ◌-◌, [], Ok}
use Rattle.report.specs.Pending.{Wrote, way}
use Rattle.report_lines.specs.Rows.{memory_rows}
use Rattle.report.proofs.putting.put_memory_blocks.Given as goal

abbrev pub invariant-loop-first : goal.invariant-loop-first
invariant-loop-first g l = Wrote (memory_rows 0 g.B.PutBody.bytes (256 * l.first)) (way (g.S.Sink.took l.fn.out) (g.S.Sink.failures l.fn.out) []) (Ok tt) (way (g.S.Sink.took l.out) (g.S.Sink.failures l.out) [])

abbrev pub decreases-loop-first : goal.decreases-loop-first
decreases-loop-first g l = 16384 - l.first
