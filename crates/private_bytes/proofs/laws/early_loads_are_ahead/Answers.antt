use Rattle.private_bytes.proofs.LaterLoads.{early_ahead}
use Rattle.private_bytes.proofs.laws.early_loads_are_ahead.Goals as goal

pub returns : goal.returns
returns c = early_ahead
