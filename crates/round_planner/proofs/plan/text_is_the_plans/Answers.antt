use Rattle.round_planner.proofs.Texts.{the_plans}
use Rattle.round_planner.proofs.plan.text_is_the_plans.Goals as goal

pub returns : goal.returns
returns c = the_plans
