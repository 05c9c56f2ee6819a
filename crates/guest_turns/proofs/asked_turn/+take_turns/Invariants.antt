use Rattle.std.proofs.Common.{length}
use Rattle.guest_turns.proofs.asked_turn.+take_turns.Given as goal

abbrev pub decreases-take_turns : goal.decreases-take_turns
decreases-take_turns l = length l.ends.now
