use Rattle.std.proofs.Common.{length}
use Rattle.trace.proofs.brief_slice.+rest_of.Given as goal

abbrev pub decreases-rest_of : goal.decreases-rest_of
decreases-rest_of l = length l.groups.now
