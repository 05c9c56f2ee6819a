use Rattle.std.proofs.Common.{◌≡◌, Err, rules}
use Rattle.report.specs.Pending.{way}
use Rattle.report.specs.Shown.{state_text}
use Rattle.report.proofs.Writing.{passed_on, wrote_part, wrote_then}
use Rattle.report.proofs.shown.put_untraced.Goals as goal

pub returns-in_err-put_head-clause-wrote : goal.returns-in_err-put_head-clause-wrote
unfolding state_text
returns-in_err-put_head-clause-wrote g c =
    let r : c.from_residual.result ≡ Err c.in_err-put_head.field-0.0 = search rules in
    passed_on _ (way (g.S.Sink.took c.args.out.now) (g.S.Sink.failures c.args.out.now) c.args.line.now) _ _ _ r (wrote_part _ _ (way (g.S.Sink.took c.args.out.now) (g.S.Sink.failures c.args.out.now) c.args.line.now) _ _ c.in_err-put_head.ensures)

pub returns-clause-wrote : goal.returns-clause-wrote
unfolding state_text
returns-clause-wrote g c = wrote_then _ _ (way (g.S.Sink.took c.args.out.now) (g.S.Sink.failures c.args.out.now) c.args.line.now) _ _ _ c.in_ok-put_head.ensures c.put_end.ensures.wrote
