use Rattle.all_endings.proofs.Lowering.{lower_do_as_much}
use Rattle.all_endings.proofs.laws.lower_states_do_as_much.Goals as goal

pub returns : goal.returns
returns c = lower_do_as_much
