use Rattle.all_endings.proofs.Times.{stand_in_time}
use Rattle.all_endings.proofs.laws.operations_stand_in_time.Goals as goal

pub returns : goal.returns
returns c = stand_in_time
