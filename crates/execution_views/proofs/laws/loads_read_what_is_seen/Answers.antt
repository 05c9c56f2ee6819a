use Rattle.execution_views.proofs.Seeing.{read_seen}
use Rattle.execution_views.proofs.laws.loads_read_what_is_seen.Goals as goal

pub returns : goal.returns
returns c = read_seen
