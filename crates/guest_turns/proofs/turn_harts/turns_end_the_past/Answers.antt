use Rattle.guest_turns.proofs.TurnHartsAsked.{turns_end}
use Rattle.guest_turns.proofs.turn_harts.turns_end_the_past.Goals as goal

pub returns : goal.returns
returns g c = turns_end _ _
