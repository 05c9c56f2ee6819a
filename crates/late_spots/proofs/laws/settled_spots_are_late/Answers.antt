use Rattle.late_spots.proofs.LateSpots.{spots_late}
use Rattle.late_spots.proofs.laws.settled_spots_are_late.Goals as goal

pub returns : goal.returns
returns c = spots_late
