use Rattle.std.proofs.Common.{◌≡◌, ◌≢◌, ℕ, ◌<◌, true, length, get_or}
use Rattle.round_schedule.specs.Positions.{event}
use Rattle.memory_order.specs.Operations.{is_operation}
use Rattle.memory_order.proofs.Ranking.{Met}
use Rattle.memory_order.proofs.checking.ranks.positions.Given as goal

abbrev pub invariant-loop-p : goal.invariant-loop-p
invariant-loop-p l = Met l.events l.order l.p l.ranks.items

abbrev pub invariant-loop-i : goal.invariant-loop-i
invariant-loop-i l = (j : ℕ) → j < l.i → is_operation (event l.events j) ≡ true → get_or l.ranks.items j 0 ≢ length l.order
