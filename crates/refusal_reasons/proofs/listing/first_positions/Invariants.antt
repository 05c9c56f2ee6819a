use Rattle.refusal_reasons.specs.Listing.{AreFirstPositions}
use Rattle.refusal_reasons.proofs.listing.first_positions.Given as goal

abbrev pub invariant-loop-p : goal.invariant-loop-p
invariant-loop-p l = AreFirstPositions l.events l.order l.p l.firsts.items
