use Rattle.all_endings.proofs.Determined.{loads_determined}
use Rattle.all_endings.proofs.laws.loads_are_determined.Goals as goal

pub returns : goal.returns
returns c = loads_determined
