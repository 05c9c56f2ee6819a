use Rattle.console_law.proofs.TurnStates.{states_are_turn}
use Rattle.console_law.proofs.turn_states_are_the_turn.Goals as goal

pub returns : goal.returns
returns g c = states_are_turn _ _
