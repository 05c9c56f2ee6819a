use Rattle.std.proofs.Common.{◌≡◌, ℕ, ◌<◌, length, true}
use Rattle.round_schedule.specs.Positions.{event}
use Rattle.memory_order.specs.Operations.{is_operation}
use Rattle.memory_order.specs.Orders.{order_position}
use Rattle.rule_checker.specs.Kinds.{RespectsKindsAt, kinds_of}
use Rattle.rule_checker.proofs.KindBounds.{Kinds}
use Rattle.rule_checker.proofs.annotated.first_by_kind.Given as goal

abbrev pub invariant-loop-i : goal.invariant-loop-i
invariant-loop-i l = record {
  harts : length l.harts.items ≡ 256;
  bounded : (h : ℕ) → Kinds l.events (order_position l.order) h l.i (kinds_of l.harts.items h);
  respected : (b : ℕ) → b < l.i → is_operation (event l.events b) ≡ true → RespectsKindsAt l.events (order_position l.order) b;
}
