use Rattle.std.proofs.Common.{◌≡◌, ℕ, true, Option}
use Rattle.pages.specs.Memory.{in_range}
use Rattle.memory_order.specs.Orders.{order_position}
use Rattle.memory_order.specs.Rvwmo.{IsSource, IsUndisturbed}
use Rattle.refusal_reasons.proofs.torn.are_undisturbed.Given as goal

abbrev pub invariant-loop-k : goal.invariant-loop-k
invariant-loop-k l = (x : ℕ) (s : Option ℕ) → in_range l.start l.k x ≡ true → IsSource l.events (order_position l.order) l.l x s → IsUndisturbed l.events (order_position l.order) l.c x s
