use Rattle.std.proofs.Common.{◌≡◌, ℕ, ◌<◌, true}
use Rattle.round_schedule.specs.Positions.{event}
use Rattle.memory_order.specs.Operations.{is_lr_or_sc}
use Rattle.order_rules.proofs.between.is_unreserved_between.Given as goal

abbrev pub invariant-loop-k : goal.invariant-loop-k
invariant-loop-k l = (j : ℕ) → l.a < j → j < l.k → (event l.events j).hart ≡ (event l.events l.b).hart → is_lr_or_sc (event l.events j).access ≡ true → ⊥
