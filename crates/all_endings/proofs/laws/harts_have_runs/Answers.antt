use Rattle.all_endings.proofs.Factors.{factorizes}
use Rattle.all_endings.proofs.laws.harts_have_runs.Goals as goal

pub returns : goal.returns
returns c = factorizes
