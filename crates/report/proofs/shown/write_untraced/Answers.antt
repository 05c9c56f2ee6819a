use Rattle.report.specs.Pending.{way}
use Rattle.report.proofs.Writing.{writes_of}
use Rattle.report.proofs.shown.write_untraced.Goals as goal

pub returns : goal.returns
returns g c =
    let before = way (g.S.Sink.took c.args.out.now) (g.S.Sink.failures c.args.out.now) c.new-line.result in
    let after = way (g.S.Sink.took c.put_untraced.new.out) (g.S.Sink.failures c.put_untraced.new.out) c.put_untraced.new.line in
    writes_of _ before after c.put_untraced.result c.new-line.ensures c.put_untraced.ensures.wrote c.put_untraced.ensures.empty
