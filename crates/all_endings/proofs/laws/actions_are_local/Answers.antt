use Rattle.all_endings.proofs.Locality.{action_local}
use Rattle.all_endings.proofs.laws.actions_are_local.Goals as goal

pub returns : goal.returns
returns c = action_local
