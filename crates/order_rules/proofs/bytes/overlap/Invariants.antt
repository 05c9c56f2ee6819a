use Rattle.std.proofs.Common.{◌≡◌, ℕ, true}
use Rattle.pages.specs.Memory.{in_range}
use Rattle.memory_order.specs.Operations.{covers}
use Rattle.order_rules.proofs.bytes.overlap.Given as goal

abbrev pub invariant-loop-k : goal.invariant-loop-k
invariant-loop-k l = (x : ℕ) → in_range l.start l.k x ≡ true → covers l.a x ≡ true → ⊥
