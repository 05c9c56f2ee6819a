use Rattle.round_planner.proofs.Rows.{accepted}
use Rattle.round_planner.proofs.family.plans_are_accepted.Goals as goal

pub returns : goal.returns
returns c = accepted
