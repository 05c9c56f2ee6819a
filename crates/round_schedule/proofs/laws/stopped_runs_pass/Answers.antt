use Rattle.round_schedule.proofs.Stopped.{stopped_runs_pass}
use Rattle.round_schedule.proofs.laws.stopped_runs_pass.Goals as goal

pub returns : goal.returns
returns g c = stopped_runs_pass _ _
