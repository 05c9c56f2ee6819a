use Rattle.std.proofs.Common.{◌≡◌, Err, [], rules}
use Rattle.host_io.specs.declared.error.RunError.TheVariants.{OutOfMemory}
use Rattle.report.specs.Pending.{way}
use Rattle.report.proofs.Writing.{passed_on, refused_by, same_text}
use Rattle.report.proofs.putting.put_block.Goals as goal

pub returns-in_err-lines : goal.returns-in_err-lines
returns-in_err-lines g c =
    let r : c.from_residual.result ≡ Err OutOfMemory = search rules in
    refused_by _ [] (way (g.S.Sink.took c.args.out.now) (g.S.Sink.failures c.args.out.now) []) _ r

pub returns-in_err-put_lines : goal.returns-in_err-put_lines
returns-in_err-put_lines g c =
    let r : c.from_residual-in_err-put_lines.result ≡ Err c.in_err-put_lines.field-0.0 = search rules in
    passed_on _ (way (g.S.Sink.took c.args.out.now) (g.S.Sink.failures c.args.out.now) []) _ _ _ r
    (same_text _ _ (way (g.S.Sink.took c.args.out.now) (g.S.Sink.failures c.args.out.now) []) _ _ c.in_ok-lines.ensures c.in_err-put_lines.ensures)

pub returns : goal.returns
returns g c = same_text _ _ (way (g.S.Sink.took c.args.out.now) (g.S.Sink.failures c.args.out.now) []) _ _ c.in_ok-lines.ensures c.in_ok-put_lines.ensures
