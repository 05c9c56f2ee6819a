use Rattle.std.proofs.Common.{length}
use Rattle.kept_states.proofs.keeping.+harts_agree.Given as goal

abbrev pub decreases-harts_agree : goal.decreases-harts_agree
decreases-harts_agree l = length l.recorded.now
