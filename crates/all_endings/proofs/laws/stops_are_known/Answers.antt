use Rattle.all_endings.proofs.Stopping.{stops_known}
use Rattle.all_endings.proofs.laws.stops_are_known.Goals as goal

pub returns : goal.returns
returns c = stops_known
