use Rattle.round_planner.proofs.Unique.{unique}
use Rattle.round_planner.proofs.plan.reading_is_unique.Goals as goal

pub returns : goal.returns
returns c = unique
