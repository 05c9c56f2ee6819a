use Rattle.execution_scripts.proofs.Counted.{as_many}
use Rattle.execution_makers.proofs.scripted.take_step.Goals as goal

pub returns : goal.returns
returns c = as_many c.args.execution.now.memory c.args.step c.args.execution.now.standing _ _ c.in_ok-_fault.ensures.took
