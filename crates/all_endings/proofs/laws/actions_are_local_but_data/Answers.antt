use Rattle.all_endings.proofs.Locality.{action_but_data}
use Rattle.all_endings.proofs.laws.actions_are_local_but_data.Goals as goal

pub returns : goal.returns
returns c = action_but_data
