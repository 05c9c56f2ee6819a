use Rattle.serial_phase.proofs.Returning.{runs_come_back}
use Rattle.serial_phase.proofs.laws.runs_come_back.Goals as goal

pub returns : goal.returns
returns g c = runs_come_back _ _ _
