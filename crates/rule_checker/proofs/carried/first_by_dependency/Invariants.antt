use Rattle.std.proofs.Common.{◌≡◌, ℕ, ◌<◌, length, true}
use Rattle.round_schedule.specs.Positions.{event}
use Rattle.memory_order.specs.Operations.{is_operation}
use Rattle.memory_order.specs.Orders.{order_position}
use Rattle.memory_order.specs.Dependencies.{RespectsAt}
use Rattle.rule_checker.specs.CarriedBounds.{AreOperands, carried_of}
use Rattle.rule_checker.proofs.Carrying.{Carries}
use Rattle.rule_checker.proofs.carried.first_by_dependency.Given as goal

abbrev pub invariant-loop-i : goal.invariant-loop-i
invariant-loop-i l = record {
  harts : length l.harts.items ≡ 256;
  carries : (h : ℕ) → Carries l.instructions l.events (order_position l.order) h l.i (carried_of l.harts.items h);
  operands : AreOperands l.instructions l.events (order_position l.order) l.i l.operands.items;
  respected : (b : ℕ) → b < l.i → is_operation (event l.events b) ≡ true → RespectsAt l.instructions l.events (order_position l.order) b;
}
