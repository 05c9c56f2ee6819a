use Rattle.report.specs.Pending.{way}
use Rattle.report.proofs.Writing.{writes_of}
use Rattle.report.proofs.state.write_state.Goals as goal

pub returns : goal.returns
returns g c =
    let before = way (g.S.Sink.took c.args.out.now) (g.S.Sink.failures c.args.out.now) c.new-line.result in
    let after = way (g.S.Sink.took c.put_state.new.out) (g.S.Sink.failures c.put_state.new.out) c.put_state.new.line in
    writes_of _ before after c.put_state.result c.new-line.ensures c.put_state.ensures.wrote c.put_state.ensures.empty
