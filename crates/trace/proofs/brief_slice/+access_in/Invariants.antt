use Rattle.std.proofs.Common.{length}
use Rattle.trace.proofs.brief_slice.+access_in.Given as goal

abbrev pub decreases-access_in : goal.decreases-access_in
decreases-access_in l = length l.groups.now
