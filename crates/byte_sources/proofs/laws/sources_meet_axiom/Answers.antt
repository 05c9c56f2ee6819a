use Rattle.byte_sources.proofs.Sourcing.{sources_meet}
use Rattle.byte_sources.proofs.laws.sources_meet_axiom.Goals as goal

pub returns : goal.returns
returns c = sources_meet
