use Rattle.std.proofs.Common.{◌≡◌, ℕ, ◌<◌, true, Contains}
use Rattle.round_schedule.specs.Positions.{event}
use Rattle.memory_order.specs.Operations.{is_operation}
use Rattle.refusal_reasons.proofs.listing.first_left_out.Given as goal

abbrev pub invariant-loop-i : goal.invariant-loop-i
invariant-loop-i l = (j : ℕ) → j < l.i → is_operation (event l.events j) ≡ true → Contains l.order j
