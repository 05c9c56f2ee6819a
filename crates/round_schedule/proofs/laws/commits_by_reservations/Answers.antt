use Rattle.round_schedule.proofs.ReservationsTied.{commit_ties}
use Rattle.round_schedule.proofs.laws.commits_by_reservations.Goals as goal

pub returns : goal.returns
returns g c = commit_ties
