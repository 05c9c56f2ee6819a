use Rattle.std.proofs.Common.{◌*◌, [], Ok, take}
use Rattle.report.specs.Pending.{Wrote, way}
use Rattle.report.specs.Report.{events_text}
use Rattle.report.proofs.putting.put_event_blocks.Given as goal

abbrev pub invariant-loop-number : goal.invariant-loop-number
invariant-loop-number g l = Wrote (events_text (take (1024 * l.number) g.B.PutBody.events)) (way (g.S.Sink.took l.fn.out) (g.S.Sink.failures l.fn.out) []) (Ok tt) (way (g.S.Sink.took l.out) (g.S.Sink.failures l.out) [])
