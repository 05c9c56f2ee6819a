use Rattle.hart_step.proofs.Waits.{waits_exactly, waits_unchanged}
use Rattle.hart_step.proofs.laws.waits_before_serial_words.Goals as goal

pub returns : goal.returns
returns c = record { exactly = waits_exactly; unchanged = waits_unchanged }
