use Rattle.execution_file.proofs.Whole.{one_execution}
use Rattle.execution_file.proofs.reading.one_execution.Goals as goal

pub returns : goal.returns
returns c = one_execution
