use Rattle.hart_step.proofs.Formation.{has_forms}
use Rattle.hart_step.proofs.laws.accesses_have_their_forms.Goals as goal

pub returns : goal.returns
returns c = has_forms
