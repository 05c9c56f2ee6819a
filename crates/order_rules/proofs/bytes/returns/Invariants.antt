use Rattle.std.proofs.Common.{◌≡◌, ℕ, true}
use Rattle.pages.specs.Memory.{in_range}
use Rattle.memory_order.specs.Orders.{order_position}
use Rattle.order_rules.specs.Orders.{IsFrom}
use Rattle.order_rules.proofs.bytes.returns.Given as goal

abbrev pub invariant-loop-k : goal.invariant-loop-k
invariant-loop-k l = (x : ℕ) → in_range l.start l.k x ≡ true → IsFrom l.events (order_position l.order) l.b l.a x → ⊥
