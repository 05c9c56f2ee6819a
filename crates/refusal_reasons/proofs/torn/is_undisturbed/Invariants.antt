use Rattle.std.proofs.Common.{ℕ, ◌<◌}
use Rattle.memory_order.specs.Orders.{order_position}
use Rattle.refusal_reasons.specs.Reasons.{LiesBetween}
use Rattle.refusal_reasons.proofs.torn.is_undisturbed.Given as goal

abbrev pub invariant-loop-p : goal.invariant-loop-p
invariant-loop-p l = (v : ℕ) → order_position l.order v < l.p → LiesBetween l.events (order_position l.order) l.c l.x l.source v → ⊥
