use Rattle.report.specs.Pending.{way}
use Rattle.report.proofs.Writing.{by_own_line}
use Rattle.report.proofs.putting.put_middle.Goals as goal

pub returns : goal.returns
returns g c =
    by_own_line _ c.new-line.result (way (g.S.Sink.took c.args.out.now) (g.S.Sink.failures c.args.out.now) c.new-line.result) (way (g.S.Sink.took c.put_between.new.out) (g.S.Sink.failures c.put_between.new.out) c.put_between.new.line) c.put_between.result c.new-line.ensures c.put_between.ensures.empty c.put_between.ensures.wrote
