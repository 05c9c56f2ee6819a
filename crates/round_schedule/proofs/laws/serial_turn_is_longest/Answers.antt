use Rattle.round_schedule.proofs.LongestTurn.{longest_turn}
use Rattle.round_schedule.proofs.laws.serial_turn_is_longest.Goals as goal

pub returns : goal.returns
returns g c = longest_turn _ _
