use Rattle.hart_step.proofs.Stopping.{stops_fit}
use Rattle.hart_step.proofs.laws.stops_have_their_codes.Goals as goal

pub returns : goal.returns
returns c = stops_fit
