use Rattle.std.proofs.Common.{◌≡◌, ℕ, ◌<◌, length, true}
use Rattle.round_schedule.specs.Positions.{ProgramBefore, writes_at}
use Rattle.memory_order.specs.Orders.{order_position}
use Rattle.memory_order.specs.Checking.{bound, source_of}
use Rattle.memory_order.proofs.Sourcing.{Noted, OwnStores}
use Rattle.memory_order.proofs.checking.own.own_stores.Given as goal

abbrev pub invariant-loop-i : goal.invariant-loop-i
invariant-loop-i l = record {
  own : OwnStores l.events (order_position l.order) l.i (λ h x. bound l.own h x);
  len : length l.sources.items ≡ length l.order;
  sources : Noted l.events (order_position l.order) l.i (λ r x. source_of l.order l.sources.items r x);
  respected : (b : ℕ) → b < l.i → (a x : ℕ) → ProgramBefore l.events a b → writes_at l.events a x ≡ true → writes_at l.events b x ≡ true → order_position l.order a < order_position l.order b;
}
