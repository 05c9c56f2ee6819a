use Rattle.serial_phase.proofs.Decided.{going_round_comes_back}
use Rattle.serial_phase.proofs.laws.going_round_comes_back.Goals as goal

pub returns : goal.returns
returns c = going_round_comes_back
