use Rattle.private_bytes.proofs.Mirroring.{lower_ahead}
use Rattle.private_bytes.proofs.laws.lower_states_are_ahead.Goals as goal

pub returns : goal.returns
returns c = lower_ahead
