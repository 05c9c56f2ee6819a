use Rattle.execution.proofs.RunExecutions.{runs_are}
use Rattle.execution.proofs.laws.runs_are_executions.Goals as goal

pub returns : goal.returns
returns c = runs_are
