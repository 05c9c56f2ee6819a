use Rattle.std.proofs.Common.{◌≡◌, ℕ, ◌<◌, true, get_or}
use Rattle.round_schedule.specs.Positions.{event}
use Rattle.memory_order.specs.Operations.{is_operation}
use Rattle.refusal_reasons.proofs.listing.first_stranger.Given as goal

abbrev pub invariant-loop-p : goal.invariant-loop-p
invariant-loop-p l = (k : ℕ) → k < l.p → is_operation (event l.events (get_or l.order k 0)) ≡ true
