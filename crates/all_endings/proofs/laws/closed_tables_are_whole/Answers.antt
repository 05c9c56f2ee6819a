use Rattle.all_endings.proofs.Tables.{tables_whole}
use Rattle.all_endings.proofs.laws.closed_tables_are_whole.Goals as goal

pub returns : goal.returns
returns c = tables_whole
