use Rattle.all_endings.proofs.Endings.{bounds_suffice}
use Rattle.all_endings.proofs.laws.bounds_suffice.Goals as goal

pub returns : goal.returns
returns c = bounds_suffice
