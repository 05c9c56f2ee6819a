use Rattle.std.proofs.Common.{◌≡◌, Err, rules}
use Rattle.host_io.specs.declared.error.RunError.TheVariants.{OutOfMemory}
use Rattle.report.specs.Pending.{way}
use Rattle.report.proofs.Writing.{line_then, refused_by}
use Rattle.trace_events.proofs.writing.put_end.Goals as goal

pub returns-in_err-text-clause-wrote : goal.returns-in_err-text-clause-wrote
returns-in_err-text-clause-wrote g c =
    let r : c.from_residual.result ≡ Err OutOfMemory = search rules in
    refused_by _ _ (way (g.S.Sink.took c.args.out.now) (g.S.Sink.failures c.args.out.now) c.args.line.now) _ r

pub returns-clause-wrote : goal.returns-clause-wrote
returns-clause-wrote g c = line_then _ _ (way (g.S.Sink.took c.args.out.now) (g.S.Sink.failures c.args.out.now) c.args.line.now) _ _ c.in_ok-text.ensures c.put_line.ensures.wrote
