use Rattle.console_law.proofs.Runs.{puts_are_answered}
use Rattle.console_law.proofs.puts_are_answered_by_room.Goals as goal

pub returns : goal.returns
returns c = puts_are_answered
