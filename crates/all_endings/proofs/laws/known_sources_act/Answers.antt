use Rattle.all_endings.proofs.Locality.{filled_acts}
use Rattle.all_endings.proofs.laws.known_sources_act.Goals as goal

pub returns : goal.returns
returns c = filled_acts
