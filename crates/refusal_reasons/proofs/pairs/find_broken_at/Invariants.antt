use Rattle.memory_order.specs.Orders.{order_position}
use Rattle.refusal_reasons.specs.Reasons.{NoneBrokenAt}
use Rattle.refusal_reasons.proofs.pairs.find_broken_at.Given as goal

abbrev pub invariant-loop-first : goal.invariant-loop-first
invariant-loop-first l = NoneBrokenAt l.instructions l.events (order_position l.order) l.first l.second
