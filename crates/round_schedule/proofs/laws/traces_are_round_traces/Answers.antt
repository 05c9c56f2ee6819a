use Rattle.round_schedule.proofs.Runs.{traces}
use Rattle.round_schedule.proofs.laws.traces_are_round_traces.Goals as goal

pub returns : goal.returns
returns g c = traces _ _
