use Rattle.std.proofs.Common.{length}
use Rattle.picture.proofs.layout.+top_under.Given as goal

abbrev pub decreases-top_under : goal.decreases-top_under
decreases-top_under l = length l.boxes.now
