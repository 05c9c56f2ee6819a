use Rattle.memory_order.specs.Orders.{order_position}
use Rattle.refusal_reasons.proofs.Tearing.{atomic_for_pair}
use Rattle.refusal_reasons.proofs.torn.find_torn_at.Goals as goal

pub returns-then-are_undisturbed : goal.returns-then-are_undisturbed
returns-then-are_undisturbed c =
    atomic_for_pair c.args.events.now (order_position c.args.order.now) c.in-Some.reserve c.args.conditional c.in-Some.ensures.1 (c.are_undisturbed.ensures.undisturbed c.if-are_undisturbed.true)

pub returns-in-None : goal.returns-in-None
returns-in-None c = λ l pair s. absurd (c.in-None.ensures l pair)
