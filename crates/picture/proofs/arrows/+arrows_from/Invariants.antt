use Rattle.std.proofs.Common.{length}
use Rattle.picture.proofs.arrows.+arrows_from.Given as goal

abbrev pub decreases-arrows_from : goal.decreases-arrows_from
decreases-arrows_from l = length l.earlier.now
