use Rattle.all_endings.proofs.Starting.{runs_start}
use Rattle.all_endings.proofs.laws.runs_start_there.Goals as goal

pub returns : goal.returns
returns c = runs_start
