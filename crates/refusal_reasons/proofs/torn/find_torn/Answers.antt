use Rattle.std.proofs.Common.{arith}
use Rattle.memory_order.specs.Orders.{order_position}
use Rattle.refusal_reasons.proofs.Tearing.{atomic_from_all}
use Rattle.refusal_reasons.proofs.torn.find_torn.Goals as goal

pub returns : goal.returns
returns c = atomic_from_all c.args.events.now (order_position c.args.order.now) (λ n l. c.loop-conditional.invariant n (omega (arith, l, c.loop-conditional-test.false)))
