use Rattle.all_endings.proofs.Walking.{walked_whole}
use Rattle.all_endings.proofs.laws.walked_tables_are_whole.Goals as goal

pub returns : goal.returns
returns c = walked_whole
