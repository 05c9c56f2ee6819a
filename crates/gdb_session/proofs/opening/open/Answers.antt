use Rattle.gdb_session.proofs.Refusing.{refused_behind}
use Rattle.gdb_session.proofs.opening.open.Goals as goal

pub returns-then-settings-clause-in_order : goal.returns-then-settings-clause-in_order
returns-then-settings-clause-in_order c = refused_behind c.args.settings.now c.args.image.now c.in_ok-machine.machine _ c.in_ok-machine.ensures.in_order

pub returns-in_err-code-clause-in_order : goal.returns-in_err-code-clause-in_order
returns-in_err-code-clause-in_order c = refused_behind c.args.settings.now c.args.image.now c.in_ok-machine.machine _ c.in_ok-machine.ensures.in_order

pub returns-in_err-new-clause-in_order : goal.returns-in_err-new-clause-in_order
returns-in_err-new-clause-in_order c = refused_behind c.args.settings.now c.args.image.now c.in_ok-machine.machine _ c.in_ok-machine.ensures.in_order

pub returns-clause-in_order : goal.returns-clause-in_order
returns-clause-in_order c = refused_behind c.args.settings.now c.args.image.now c.in_ok-machine.machine _ c.in_ok-machine.ensures.in_order
