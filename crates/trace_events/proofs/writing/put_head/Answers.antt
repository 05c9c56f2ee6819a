use Rattle.std.proofs.Common.{◌≡◌, Err, rules}
use Rattle.host_io.specs.declared.error.RunError.TheVariants.{OutOfMemory}
use Rattle.report.specs.Pending.{way}
use Rattle.report.proofs.Writing.{line_then, refused_by}
use Rattle.trace_events.proofs.writing.put_head.Goals as goal

pub returns-in_err-add_head : goal.returns-in_err-add_head
returns-in_err-add_head g c =
    let r : c.from_residual.result ≡ Err OutOfMemory = search rules in
    refused_by _ _ (way (g.S.Sink.took c.args.out.now) (g.S.Sink.failures c.args.out.now) c.args.line.now) _ r

pub returns : goal.returns
returns g c = line_then _ _ (way (g.S.Sink.took c.args.out.now) (g.S.Sink.failures c.args.out.now) c.args.line.now) _ _ c.in_ok-add_head.ensures c.put_long.ensures
