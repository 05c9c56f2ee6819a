use Rattle.list_suffixes.proofs.KeptMoves.{moves_kept}
use Rattle.list_suffixes.proofs.laws.moves_are_kept.Goals as goal

pub returns : goal.returns
returns c = moves_kept
