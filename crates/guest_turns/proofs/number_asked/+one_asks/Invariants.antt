use Rattle.std.proofs.Common.{length}
use Rattle.guest_turns.proofs.number_asked.+one_asks.Given as goal

abbrev pub decreases-one_asks : goal.decreases-one_asks
decreases-one_asks l = length l.ends.now
