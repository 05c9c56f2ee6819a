use Rattle.hart_step.proofs.Soundness.{counts_done}
use Rattle.hart_step.proofs.laws.done_counts_instructions.Goals as goal

pub returns : goal.returns
returns c = counts_done
