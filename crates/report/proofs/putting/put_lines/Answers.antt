use Rattle.std.proofs.Common.{[], refl}
use Rattle.report.specs.Pending.{way}
use Rattle.report.proofs.Writing.{put_by}
use Rattle.report.proofs.putting.put_lines.Goals as goal

pub returns : goal.returns
returns g c =
    put_by c.args.lines.now c.as_bytes.result.now (way (g.S.Sink.took c.args.out.now) (g.S.Sink.failures c.args.out.now) []) c.put_all.result (way (g.S.Sink.took c.put_all.new.out) (g.S.Sink.failures c.put_all.new.out) []) c.as_bytes.ensures refl refl
    c.put_all.ensures.ok c.put_all.ensures.begun c.put_all.ensures.failed c.put_all.ensures.only_sink c.put_all.ensures.counts
