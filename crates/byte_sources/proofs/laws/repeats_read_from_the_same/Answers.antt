use Rattle.byte_sources.proofs.Repeated.{repeated}
use Rattle.byte_sources.proofs.laws.repeats_read_from_the_same.Goals as goal

pub returns : goal.returns
returns c = repeated
