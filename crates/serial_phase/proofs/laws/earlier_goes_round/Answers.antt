use Rattle.serial_phase.proofs.Decided.{earlier_goes_round}
use Rattle.serial_phase.proofs.laws.earlier_goes_round.Goals as goal

pub returns : goal.returns
returns c = earlier_goes_round
