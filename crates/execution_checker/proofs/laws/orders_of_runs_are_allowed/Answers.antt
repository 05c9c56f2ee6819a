use Rattle.execution_checker.proofs.RunOrders.{orders_allowed}
use Rattle.execution_checker.proofs.laws.orders_of_runs_are_allowed.Goals as goal

pub returns : goal.returns
returns c = orders_allowed
