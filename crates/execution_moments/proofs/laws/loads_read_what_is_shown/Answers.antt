use Rattle.execution_moments.proofs.Showing.{shown}
use Rattle.execution_moments.proofs.laws.loads_read_what_is_shown.Goals as goal

pub returns : goal.returns
returns c = shown c.loads_read_what_is_seen.ensures
