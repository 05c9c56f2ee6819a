use Rattle.moments.proofs.Seen.{moves_read}
use Rattle.moments.proofs.laws.moves_read_what_is_seen.Goals as goal

pub returns : goal.returns
returns g c = moves_read _ _
