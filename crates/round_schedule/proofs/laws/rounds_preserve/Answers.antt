use Rattle.round_schedule.proofs.Preserved.{rounds_preserve}
use Rattle.round_schedule.proofs.laws.rounds_preserve.Goals as goal

pub returns : goal.returns
returns g c = rounds_preserve _ _
