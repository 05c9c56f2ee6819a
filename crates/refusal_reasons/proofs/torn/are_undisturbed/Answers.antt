use Rattle.std.proofs.Common.{inl, inr, subst}
use Rattle.memory_order.specs.Orders.{order_position}
use Rattle.memory_order.specs.Rvwmo.{IsSource, IsUndisturbed}
use Rattle.memory_order.proofs.Bounding.{range_last}
use Rattle.refusal_reasons.proofs.Tearing.{undisturbed_for_all}
use Rattle.refusal_reasons.proofs.torn.are_undisturbed.Goals as goal

pub loop-k-preserved : goal.loop-k-preserved
loop-k-preserved c = λ x s h source. elim (range_last c.address-start.result c.loop-k.k x h) [
  | inl old ↦ c.loop-k.invariant x s old source
  | inr same ↦
      undisturbed_for_all c.args.events.now c.args.order.now c.args.l c.args.c x c.source_of-source.result s c.requires.ranked.lists
      (subst (λ y. IsSource c.args.events.now (order_position c.args.order.now) c.args.l y c.source_of-source.result) same c.source_of-source.ensures.source)
      (subst (λ y. IsUndisturbed c.args.events.now (order_position c.args.order.now) c.args.c y c.source_of-source.result) same (c.is_undisturbed.ensures.0 c.if-not-is_undisturbed.false)) source
]
