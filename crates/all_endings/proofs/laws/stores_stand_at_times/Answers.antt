use Rattle.all_endings.proofs.StoreLists.{stores_stand}
use Rattle.all_endings.proofs.laws.stores_stand_at_times.Goals as goal

pub returns : goal.returns
returns c = stores_stand
