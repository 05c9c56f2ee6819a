use Rattle.std.proofs.Common.{◌≡◌, ℕ, ◌<◌, length, true}
use Rattle.round_schedule.specs.Positions.{event}
use Rattle.memory_order.specs.Operations.{is_operation}
use Rattle.memory_order.specs.Orders.{order_position}
use Rattle.memory_order.specs.CheckingProgram.{RespectsAt, bounds_of}
use Rattle.memory_order.proofs.ProgramBounds.{Bounded}
use Rattle.memory_order.proofs.checking.program.respects_but_overlap.Given as goal

abbrev pub invariant-loop-i : goal.invariant-loop-i
invariant-loop-i l = record {
  harts : length l.harts.items ≡ 256;
  bounded : (h : ℕ) → Bounded l.events (order_position l.order) h l.i (bounds_of l.harts.items h);
  respected : (b : ℕ) → b < l.i → is_operation (event l.events b) ≡ true → RespectsAt l.events (order_position l.order) b;
}
