use Rattle.std.proofs.Common.{length}
use Rattle.picture.proofs.bands.+columns.Given as goal

abbrev pub decreases-columns : goal.decreases-columns
decreases-columns l = length l.starts.now
