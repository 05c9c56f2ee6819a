use Rattle.all_endings.proofs.Locality.{destination_written}
use Rattle.all_endings.proofs.laws.destinations_are_written.Goals as goal

pub returns : goal.returns
returns c = destination_written
