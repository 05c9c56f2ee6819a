use Rattle.all_endings.proofs.Locality.{sets_refine}
use Rattle.all_endings.proofs.laws.writes_keep_refining.Goals as goal

pub returns : goal.returns
returns c = sets_refine
