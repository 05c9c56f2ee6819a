use Rattle.byte_sources.proofs.Sourcing.{arrows_meet}
use Rattle.byte_sources.proofs.laws.arrows_meet_axiom.Goals as goal

pub returns : goal.returns
returns c = arrows_meet
