use Rattle.std.proofs.Common.{◌≡◌, Err, rules}
use Rattle.report.specs.Pending.{way}
use Rattle.report.specs.Order.{order_text}
use Rattle.report.proofs.Writing.{passed_on, wrote_part, wrote_then}
use Rattle.report.proofs.order.put_order.Goals as goal

pub returns-in_err-put_count-clause-wrote : goal.returns-in_err-put_count-clause-wrote
unfolding order_text
returns-in_err-put_count-clause-wrote g c =
    let r : c.from_residual.result ≡ Err c.in_err-put_count.field-0.0 = search rules in
    passed_on _ (way (g.S.Sink.took c.args.out.now) (g.S.Sink.failures c.args.out.now) c.args.line.now) _ _ _ r (wrote_part _ _ (way (g.S.Sink.took c.args.out.now) (g.S.Sink.failures c.args.out.now) c.args.line.now) _ _ (wrote_part _ _ (way (g.S.Sink.took c.args.out.now) (g.S.Sink.failures c.args.out.now) c.args.line.now) _ _ c.in_err-put_count.ensures))

pub returns-in_err-put_indexed-clause-wrote : goal.returns-in_err-put_indexed-clause-wrote
unfolding order_text
returns-in_err-put_indexed-clause-wrote g c =
    let r : c.from_residual-in_err-put_indexed.result ≡ Err c.in_err-put_indexed.field-0.0 = search rules in
    passed_on _ (way (g.S.Sink.took c.args.out.now) (g.S.Sink.failures c.args.out.now) c.args.line.now) _ _ _ r (wrote_part _ _ (way (g.S.Sink.took c.args.out.now) (g.S.Sink.failures c.args.out.now) c.args.line.now) _ _ (wrote_then _ _ (way (g.S.Sink.took c.args.out.now) (g.S.Sink.failures c.args.out.now) c.args.line.now) _ _ _ c.in_ok-put_count.ensures c.in_err-put_indexed.ensures))

pub returns-clause-wrote : goal.returns-clause-wrote
unfolding order_text
returns-clause-wrote g c = wrote_then _ _ (way (g.S.Sink.took c.args.out.now) (g.S.Sink.failures c.args.out.now) c.args.line.now) _ _ _ (wrote_then _ _ (way (g.S.Sink.took c.args.out.now) (g.S.Sink.failures c.args.out.now) c.args.line.now) _ _ _ c.in_ok-put_count.ensures c.in_ok-put_indexed.ensures) c.put_checked.ensures.wrote
