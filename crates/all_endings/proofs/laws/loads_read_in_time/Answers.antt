use Rattle.all_endings.proofs.Sources.{loads_read}
use Rattle.all_endings.proofs.laws.loads_read_in_time.Goals as goal

pub returns : goal.returns
returns c = loads_read
