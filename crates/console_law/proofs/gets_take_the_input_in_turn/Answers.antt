use Rattle.console_law.proofs.Runs.{gets_take_input}
use Rattle.console_law.proofs.gets_take_the_input_in_turn.Goals as goal

pub returns : goal.returns
returns c = gets_take_input
