use Rattle.std.proofs.Common.{ℕ, ◌<◌, get_or}
use Rattle.memory_order.specs.Orders.{order_position}
use Rattle.memory_order.specs.CheckingAtomic.{AtomicAt, IsLatestStore, latest_of}
use Rattle.memory_order.proofs.checking.atomic.pairs_are_atomic.Given as goal

abbrev pub invariant-loop-p : goal.invariant-loop-p
invariant-loop-p l = record {
  latest : (x : ℕ) → IsLatestStore l.events (order_position l.order) l.p x (latest_of l.latest x);
  atomic : (q : ℕ) → q < l.p → AtomicAt l.events (order_position l.order) (get_or l.order q 0);
}
