use Rattle.std.proofs.Common.{ℕ, ◌<◌}
use Rattle.order_rules.specs.Orders.{FencedBy}
use Rattle.order_rules.proofs.between.is_fenced.Given as goal

abbrev pub invariant-loop-f : goal.invariant-loop-f
invariant-loop-f l = (j : ℕ) → j < l.f → FencedBy l.events l.a l.b j → ⊥
