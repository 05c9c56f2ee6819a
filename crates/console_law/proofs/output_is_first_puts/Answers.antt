use Rattle.console_law.proofs.Runs.{output_is_first}
use Rattle.console_law.proofs.output_is_first_puts.Goals as goal

pub returns : goal.returns
returns c = output_is_first
