use Rattle.all_endings.proofs.Endings.{ends_are_last}
use Rattle.all_endings.proofs.laws.ends_are_last.Goals as goal

pub returns : goal.returns
returns c = ends_are_last
