use Rattle.all_endings.proofs.Earlier.{earlier_moves_lower}
use Rattle.all_endings.proofs.laws.earlier_moves_are_lower.Goals as goal

pub returns : goal.returns
returns c = earlier_moves_lower
