use Rattle.hunter.proofs.Found.{never_ends}
use Rattle.hunter.proofs.laws.round_runs_never_end.Goals as goal

pub returns : goal.returns
returns c = never_ends
