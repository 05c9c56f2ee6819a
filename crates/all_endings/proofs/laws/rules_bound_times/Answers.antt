use Rattle.all_endings.proofs.Sources.{preserved_in_time}
use Rattle.all_endings.proofs.laws.rules_bound_times.Goals as goal

pub returns : goal.returns
returns c = preserved_in_time
