use Rattle.std.proofs.Common.{length}
use Rattle.picture.proofs.layout.+last_top.Given as goal

abbrev pub decreases-last_top : goal.decreases-last_top
decreases-last_top l = length l.boxes.now
