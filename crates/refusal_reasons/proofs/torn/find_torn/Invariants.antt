use Rattle.std.proofs.Common.{ℕ, ◌<◌}
use Rattle.memory_order.specs.Orders.{order_position}
use Rattle.refusal_reasons.specs.Reasons.{AtomicFor}
use Rattle.refusal_reasons.proofs.torn.find_torn.Given as goal

abbrev pub invariant-loop-conditional : goal.invariant-loop-conditional
invariant-loop-conditional l = (c : ℕ) → c < l.conditional → AtomicFor l.events (order_position l.order) c
