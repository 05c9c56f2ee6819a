use Rattle.moments.proofs.Mine.{sights_moves}
use Rattle.moments.proofs.laws.sights_are_before_moves.Goals as goal

pub returns : goal.returns
returns g c = sights_moves _ _
