use Rattle.moments.proofs.Past.{sights_past}
use Rattle.moments.proofs.laws.sights_are_the_past.Goals as goal

pub returns : goal.returns
returns g c = sights_past _ _
