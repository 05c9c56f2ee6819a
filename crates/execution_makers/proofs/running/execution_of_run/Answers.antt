use Rattle.execution_makers.proofs.Unrefused.{in_order}
use Rattle.execution_makers.proofs.running.execution_of_run.Goals as goal

pub returns-in_err-ran-clause-in_order : goal.returns-in_err-ran-clause-in_order
returns-in_err-ran-clause-in_order g c = in_order c.args.settings.now c.args.image.now c.in_ok-machine.machine _ c.in_ok-machine.ensures.in_order

pub returns-clause-in_order : goal.returns-clause-in_order
returns-clause-in_order g c = in_order c.args.settings.now c.args.image.now c.in_ok-machine.machine _ c.in_ok-machine.ensures.in_order
