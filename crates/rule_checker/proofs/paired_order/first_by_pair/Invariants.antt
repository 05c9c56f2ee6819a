use Rattle.std.proofs.Common.{◌≡◌, ℕ, ◌<◌, true}
use Rattle.round_schedule.specs.Positions.{event}
use Rattle.memory_order.specs.Operations.{is_operation}
use Rattle.memory_order.specs.Orders.{order_position}
use Rattle.rule_checker.specs.Violations.{RespectsPairAt}
use Rattle.rule_checker.proofs.paired_order.first_by_pair.Given as goal

abbrev pub invariant-loop-i : goal.invariant-loop-i
invariant-loop-i l = (b : ℕ) → b < l.i → is_operation (event l.events b) ≡ true → RespectsPairAt l.events (order_position l.order) b
