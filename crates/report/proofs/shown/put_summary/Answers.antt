use Rattle.std.proofs.Common.{◌≡◌, Err, rules}
use Rattle.report.specs.Pending.{way}
use Rattle.report.specs.Shown.{summary_text}
use Rattle.report.proofs.Writing.{passed_on, wrote_part, wrote_then}
use Rattle.report.proofs.shown.put_summary.Goals as goal

pub returns-in_err-put_count-clause-wrote : goal.returns-in_err-put_count-clause-wrote
unfolding summary_text
returns-in_err-put_count-clause-wrote g c =
    let r : c.from_residual.result ≡ Err c.in_err-put_count.field-0.0 = search rules in
    passed_on _ (way (g.S.Sink.took c.args.out.now) (g.S.Sink.failures c.args.out.now) c.args.line.now) _ _ _ r (wrote_part _ _ (way (g.S.Sink.took c.args.out.now) (g.S.Sink.failures c.args.out.now) c.args.line.now) _ _ (wrote_part _ _ (way (g.S.Sink.took c.args.out.now) (g.S.Sink.failures c.args.out.now) c.args.line.now) _ _ c.in_err-put_count.ensures))

pub returns-in_err-put_harts-clause-wrote : goal.returns-in_err-put_harts-clause-wrote
unfolding summary_text
returns-in_err-put_harts-clause-wrote g c =
    let r : c.from_residual-in_err-put_harts.result ≡ Err c.in_err-put_harts.field-0.0 = search rules in
    passed_on _ (way (g.S.Sink.took c.args.out.now) (g.S.Sink.failures c.args.out.now) c.args.line.now) _ _ _ r (wrote_part _ _ (way (g.S.Sink.took c.args.out.now) (g.S.Sink.failures c.args.out.now) c.args.line.now) _ _ (wrote_then _ _ (way (g.S.Sink.took c.args.out.now) (g.S.Sink.failures c.args.out.now) c.args.line.now) _ _ _ c.in_ok-put_count.ensures c.in_err-put_harts.ensures))

pub returns-clause-wrote : goal.returns-clause-wrote
unfolding summary_text
returns-clause-wrote g c = wrote_then _ _ (way (g.S.Sink.took c.args.out.now) (g.S.Sink.failures c.args.out.now) c.args.line.now) _ _ _ (wrote_then _ _ (way (g.S.Sink.took c.args.out.now) (g.S.Sink.failures c.args.out.now) c.args.line.now) _ _ _ c.in_ok-put_count.ensures c.in_ok-put_harts.ensures) c.put_output_line.ensures.wrote
