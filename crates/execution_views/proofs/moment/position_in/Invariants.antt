use Rattle.std.proofs.Common.{◌≡◌, ◌+◌, drop}
use Rattle.memory_order.specs.Orders.{order_position}
use Rattle.execution_views.proofs.moment.position_in.Given as goal

abbrev pub invariant-loop-position : goal.invariant-loop-position
invariant-loop-position l = order_position l.order l.sought ≡ l.position + order_position (drop l.position l.order) l.sought
