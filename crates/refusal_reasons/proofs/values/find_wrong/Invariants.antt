use Rattle.std.proofs.Common.{ℕ, ◌<◌}
use Rattle.trace.specs.Traced.{opening_at}
use Rattle.memory_order.specs.Orders.{order_position}
use Rattle.refusal_reasons.specs.Reasons.{IsRightLoad}
use Rattle.refusal_reasons.proofs.values.find_wrong.Given as goal

abbrev pub invariant-loop-load : goal.invariant-loop-load
invariant-loop-load l = (r : ℕ) → r < l.load → IsRightLoad l.events (opening_at l.opening.opening) (order_position l.order) r
