use Rattle.late_spots.proofs.LateRuns.{late_kept}
use Rattle.late_spots.proofs.laws.late_runs_are_of_those_kept.Goals as goal

pub returns : goal.returns
returns c = late_kept
