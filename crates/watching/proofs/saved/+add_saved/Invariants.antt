use Rattle.std.proofs.Common.{length}
use Rattle.watching.proofs.saved.+add_saved.Given as goal

abbrev pub decreases-add_saved : goal.decreases-add_saved
decreases-add_saved l = length l.watches.now
