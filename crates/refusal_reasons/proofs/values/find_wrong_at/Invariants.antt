use Rattle.std.proofs.Common.{◌≡◌, ℕ, true}
use Rattle.pages.specs.Memory.{in_range}
use Rattle.trace.specs.Traced.{opening_at}
use Rattle.memory_order.specs.Orders.{order_position}
use Rattle.refusal_reasons.specs.Reasons.{IsRight}
use Rattle.refusal_reasons.proofs.values.find_wrong_at.Given as goal

abbrev pub invariant-loop-k : goal.invariant-loop-k
invariant-loop-k l = (x : ℕ) → in_range l.start l.k x ≡ true → IsRight l.events (opening_at l.opening.opening) (order_position l.order) l.load x
