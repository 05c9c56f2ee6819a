use Rattle.std.proofs.Common.{length}
use Rattle.picture.proofs.layout.+last_top_of_phase.Given as goal

abbrev pub decreases-last_top_of_phase : goal.decreases-last_top_of_phase
decreases-last_top_of_phase l = length l.boxes.now
