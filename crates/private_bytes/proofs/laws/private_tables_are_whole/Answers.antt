use Rattle.private_bytes.proofs.Together.{private_whole}
use Rattle.private_bytes.proofs.laws.private_tables_are_whole.Goals as goal

pub returns : goal.returns
returns c = private_whole
