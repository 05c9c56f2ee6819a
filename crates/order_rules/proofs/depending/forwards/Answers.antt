use Rattle.std.proofs.Common.{inl, inr, subst, sym}
use Rattle.memory_order.specs.Orders.{order_position}
use Rattle.order_rules.specs.Orders.{ForwardsAt}
use Rattle.memory_order.proofs.Bounding.{range_last}
use Rattle.order_rules.proofs.depending.forwards.Goals as goal

pub loop-k-preserved : goal.loop-k-preserved
loop-k-preserved c = λ x h d. elim (range_last c.address-start.result c.loop-k.k x h) [
  | inl old ↦ c.loop-k.invariant x old d
  | inr same ↦
      let yes = c.forwards_at.ensures.1 (subst (ForwardsAt c.args.instructions.now c.args.events.now (order_position c.args.order.now) c.args.a c.args.b) (sym same) d) in
      let no = c.if-forwards_at.false in
      cc
]
