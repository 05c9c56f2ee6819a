use Rattle.std.proofs.Common.{◌≡◌, ℕ, ◌<◌, true}
use Rattle.round_schedule.specs.Positions.{event, writes_at}
use Rattle.order_rules.proofs.bytes.is_unstored_between.Given as goal

abbrev pub invariant-loop-k : goal.invariant-loop-k
invariant-loop-k l = (j : ℕ) → l.a < j → j < l.k → (event l.events j).hart ≡ (event l.events l.b).hart → writes_at l.events j l.x ≡ true → ⊥
