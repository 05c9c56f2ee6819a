use Rattle.std.proofs.Common.{length}
use Rattle.guest_turns.proofs.turn_harts.+visit_each.Given as goal

abbrev pub decreases-visit_each : goal.decreases-visit_each
decreases-visit_each g l = length l.ends.now
