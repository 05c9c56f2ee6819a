use Rattle.serial_phase.proofs.Forgetting.{counts_are_forgotten}
use Rattle.serial_phase.proofs.laws.counts_are_forgotten.Goals as goal

pub returns : goal.returns
returns c = counts_are_forgotten
