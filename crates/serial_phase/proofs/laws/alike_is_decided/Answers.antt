use Rattle.serial_phase.proofs.Decided.{alike_is_decided}
use Rattle.serial_phase.proofs.laws.alike_is_decided.Goals as goal

pub returns : goal.returns
returns c = alike_is_decided
