use Rattle.serial_phase.proofs.Returning.{runs_go_round}
use Rattle.serial_phase.proofs.laws.runs_go_round.Goals as goal

pub returns : goal.returns
returns g c = runs_go_round _ _ _
