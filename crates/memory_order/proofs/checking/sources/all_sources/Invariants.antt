use Rattle.std.proofs.Common.{◌≡◌, length}
use Rattle.memory_order.specs.Orders.{order_position}
use Rattle.memory_order.specs.Checking.{bound, source_of}
use Rattle.memory_order.proofs.Sourcing.{SeenStores, Sourced}
use Rattle.memory_order.proofs.checking.sources.all_sources.Given as goal

abbrev pub invariant-loop-p : goal.invariant-loop-p
invariant-loop-p l = record {
  len : length l.sources.items ≡ length l.order;
  seen : SeenStores l.events (order_position l.order) l.p (λ x. bound l.seen 0 x);
  sources : Sourced l.events l.order l.p (λ r x. source_of l.order l.sources.items r x);
}
