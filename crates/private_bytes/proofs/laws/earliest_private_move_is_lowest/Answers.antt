use Rattle.private_bytes.proofs.PrivateTimes.{earliest_lowest}
use Rattle.private_bytes.proofs.laws.earliest_private_move_is_lowest.Goals as goal

pub returns : goal.returns
returns c = earliest_lowest
