use Rattle.hart_step.proofs.Soundness.{sound}
use Rattle.hart_step.proofs.laws.instructions_are_sound.Goals as goal

pub returns : goal.returns
returns c = sound
