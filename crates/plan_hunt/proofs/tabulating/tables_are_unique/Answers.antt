use Rattle.plan_hunt.proofs.Unique.{unique}
use Rattle.plan_hunt.proofs.tabulating.tables_are_unique.Goals as goal

pub returns : goal.returns
returns c = unique
