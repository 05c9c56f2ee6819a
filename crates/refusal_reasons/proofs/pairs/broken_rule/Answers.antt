use Rattle.memory_order.specs.Orders.{order_position}
use Rattle.refusal_reasons.proofs.Breaking.{broken_by_first}
use Rattle.refusal_reasons.proofs.pairs.broken_rule.Goals as goal

pub returns : goal.returns
returns c =
    broken_by_first c.args.instructions.now c.args.events.now (order_position c.args.order.now) c.args.first c.args.second c.first_rule.result
    (c.is_turned.ensures.0 c.if-not-is_turned.false) c.first_rule.ensures
