use Rattle.list_suffixes.proofs.KeptRuns.{runs_kept}
use Rattle.list_suffixes.proofs.laws.runs_are_kept.Goals as goal

pub returns : goal.returns
returns c = runs_kept
