use Rattle.list_suffixes.proofs.Current.{current_kept}
use Rattle.list_suffixes.proofs.laws.current_runs_are_of_those_kept.Goals as goal

pub returns : goal.returns
returns c = current_kept
