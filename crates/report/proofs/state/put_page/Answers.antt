use Rattle.std.proofs.Common.{◌≡◌, Err, rules}
use Rattle.host_io.specs.declared.error.RunError.TheVariants.{OutOfMemory}
use Rattle.report.specs.Pending.{way}
use Rattle.report.proofs.Writing.{line_then, refused_by}
use Rattle.report.proofs.state.put_page.Goals as goal

pub returns-in_err-page_lines : goal.returns-in_err-page_lines
returns-in_err-page_lines g c =
    let r : c.from_residual.result ≡ Err OutOfMemory = search rules in
    refused_by _ _ (way (g.S.Sink.took c.args.out.now) (g.S.Sink.failures c.args.out.now) c.args.line.now) _ r

pub returns : goal.returns
returns g c = line_then _ _ (way (g.S.Sink.took c.args.out.now) (g.S.Sink.failures c.args.out.now) c.args.line.now) _ _ c.in_ok-page_lines.ensures c.put_long.ensures
