use Rattle.std.proofs.Common.{◌≡◌, Err, rules, arith, ap}
use Rattle.std.proofs.lemmas.List.{take_all}
use Rattle.report.specs.Pending.{way}
use Rattle.report.specs.Order.{indexed_text}
use Rattle.report.proofs.Writing.{loop_more, loop_stop, same_text, wrote_none}
use Rattle.report.proofs.Orders.{places_left, places_more}
use Rattle.report.proofs.order.put_indexed.Goals as goal

pub loop-index-init : goal.loop-index-init
loop-index-init g c = wrote_none (way (g.S.Sink.took c.args.out.now) (g.S.Sink.failures c.args.out.now) c.args.line.now)

pub returns-in_err-put_event : goal.returns-in_err-put_event
returns-in_err-put_event g c =
    let r : c.from_residual.result ≡ Err c.in_err-put_event.field-0.0 = search rules in
    loop_stop _ _ _ _ (way (g.S.Sink.took c.args.out.now) (g.S.Sink.failures c.args.out.now) c.args.line.now) _ _ _ _ c.loop-index.invariant c.in_err-put_event.ensures r (places_left c.args.trace.now.events c.args.indexes.now c.loop-index.index-index 0 _ (omega arith) c.event.ensures)

pub loop-index-preserved : goal.loop-index-preserved
loop-index-preserved g c = loop_more _ _ _ (way (g.S.Sink.took c.args.out.now) (g.S.Sink.failures c.args.out.now) c.args.line.now) _ _ c.loop-index.invariant c.in_ok-put_event.ensures (places_more c.args.trace.now.events c.args.indexes.now c.loop-index.index-index 0 _ (omega arith) c.event.ensures)

pub returns : goal.returns
returns g c = same_text _ _ (way (g.S.Sink.took c.args.out.now) (g.S.Sink.failures c.args.out.now) c.args.line.now) _ _ (ap (indexed_text c.args.trace.now.events) (take_all c.loop-index.index-index c.args.indexes.now (omega arith))) c.loop-index.invariant
