use Rattle.round_schedule.proofs.Machines.{runs_by_reservations}
use Rattle.round_schedule.proofs.laws.runs_by_reservations.Goals as goal

pub returns : goal.returns
returns g c = runs_by_reservations _ _
