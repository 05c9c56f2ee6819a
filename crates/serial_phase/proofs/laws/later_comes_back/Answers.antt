use Rattle.serial_phase.proofs.Returning.{later_comes_back}
use Rattle.serial_phase.proofs.laws.later_comes_back.Goals as goal

pub returns : goal.returns
returns g c = later_comes_back _ _ _
