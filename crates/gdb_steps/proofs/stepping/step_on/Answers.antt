use Rattle.std.specs.Prelude.{IfOk}
use Rattle.gdb_runs.specs.Sessions.{Recorded, recorded_of, state_of}
use Rattle.gdb_steps.specs.Steps.{StepsBy}
use Rattle.gdb_steps.proofs.Arriving.{steps_on}
use Rattle.gdb_runs.proofs.Runs.{of_same}
use Rattle.gdb_steps.proofs.stepping.step_on.Goals as goal

pub returns-clause-steps : goal.returns-clause-steps
returns-clause-steps g c = λ m is.
    let d = c.args.run.now in
    let s = state_of c.args.session.now in
    let hart = c.args.hart in
    let found = c.in_ok-found.found in
    let P : Recorded → Type 0 = λ r. IfOk c.step_by.result (λ t. StepsBy r s hart found t) in
    steps_on (recorded_of m d) s found hart c.sought_from-from.result c.sought_from-from.ensures.from
    (c.in_ok-found.ensures.finds m is)
    c.step_by.result (of_same d c.find_told.new.run P c.in_ok-found.ensures.stays c.step_by.ensures.steps m is)
