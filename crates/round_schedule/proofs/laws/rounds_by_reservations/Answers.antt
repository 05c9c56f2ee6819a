use Rattle.round_schedule.proofs.Machines.{rounds_by_reservations}
use Rattle.round_schedule.proofs.laws.rounds_by_reservations.Goals as goal

pub returns : goal.returns
returns g c = rounds_by_reservations _ _
