use Rattle.all_endings.proofs.Locality.{step_local}
use Rattle.all_endings.proofs.laws.steps_are_local.Goals as goal

pub returns : goal.returns
returns c = step_local
