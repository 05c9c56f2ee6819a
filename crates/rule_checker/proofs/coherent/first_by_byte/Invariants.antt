use Rattle.std.proofs.Common.{◌≡◌, ℕ, ◌<◌, true}
use Rattle.round_schedule.specs.Positions.{event}
use Rattle.memory_order.specs.Operations.{is_operation}
use Rattle.memory_order.specs.Orders.{order_position}
use Rattle.memory_order.specs.Checking.{bound}
use Rattle.rule_checker.specs.Bytes.{RespectsBytesAt}
use Rattle.rule_checker.proofs.Coherence.{Seen, Touched}
use Rattle.rule_checker.proofs.coherent.first_by_byte.Given as goal

abbrev pub invariant-loop-i : goal.invariant-loop-i
invariant-loop-i l = record {
  touched : Touched l.events (order_position l.order) l.i (λ h x. bound l.touched h x);
  seen : Seen l.events (order_position l.order) l.i (λ h x. bound l.seen h x);
  respected : (b : ℕ) → b < l.i → is_operation (event l.events b) ≡ true → RespectsBytesAt l.events (order_position l.order) b;
}
