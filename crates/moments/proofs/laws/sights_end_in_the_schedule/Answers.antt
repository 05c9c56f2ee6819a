use Rattle.moments.proofs.Ends.{sights_end}
use Rattle.moments.proofs.laws.sights_end_in_the_schedule.Goals as goal

pub returns : goal.returns
returns g c = sights_end _ _
