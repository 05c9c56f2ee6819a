use Rattle.report.specs.Pending.{way}
use Rattle.report.proofs.Writing.{writes_of}
use Rattle.report.proofs.shown.write_summary.Goals as goal

pub returns : goal.returns
returns g c =
    let before = way (g.S.Sink.took c.args.out.now) (g.S.Sink.failures c.args.out.now) c.new-line.result in
    let after = way (g.S.Sink.took c.put_summary.new.out) (g.S.Sink.failures c.put_summary.new.out) c.put_summary.new.line in
    writes_of _ before after c.put_summary.result c.new-line.ensures c.put_summary.ensures.wrote c.put_summary.ensures.empty
