use Rattle.std.proofs.Common.{◌≡◌, length}
use Rattle.memory_order.specs.Orders.{order_position}
use Rattle.memory_order.specs.Checking.{bound, source_of}
use Rattle.memory_order.proofs.Sourcing.{Noted, OwnStores}
use Rattle.rule_checker.proofs.own.own_sources.Given as goal

abbrev pub invariant-loop-i : goal.invariant-loop-i
invariant-loop-i l = record {
  own : OwnStores l.events (order_position l.order) l.i (λ h x. bound l.own h x);
  len : length l.sources.items ≡ length l.order;
  sources : Noted l.events (order_position l.order) l.i (λ r x. source_of l.order l.sources.items r x);
}
