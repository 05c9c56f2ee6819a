use Rattle.round_schedule.proofs.Rising.{rising}
use Rattle.round_schedule.proofs.laws.places_of_runs_rise.Goals as goal

pub returns : goal.returns
returns g c = rising _ _
