use Rattle.std.proofs.Common.{◌≡◌, ap, ◌∙◌}
use Rattle.std.specs.Prelude.{IfOk}
use Rattle.watching.specs.declared.watchpoint.Way.TheVariants.{On}
use Rattle.gdb_runs.specs.declared.debugged.Debugged.{Debugged}
use Rattle.gdb_runs.specs.Sessions.{Recorded, recorded_of, state_of}
use Rattle.gdb_runs.specs.Standings.{end_of, told_or}
use Rattle.gdb_steps.proofs.Arriving.{steps_from}
use Rattle.gdb_runs.proofs.Runs.{of_same}
use Rattle.gdb_steps.proofs.stepping.step_from.Goals as goal

pub returns-clause-steps : goal.returns-clause-steps
returns-clause-steps g c = λ m is.
    let d = c.args.run.now in
    let s = state_of c.args.session.now in
    let hart = c.args.hart in
    let found = c.in_ok-found.found in
    let end = c.end_of-end.result in
    let same = c.in_ok-found.ensures.stays in
    let P : Recorded → Type 0 = λ r. IfOk c.tell_or.result (λ t. t ≡ told_or r s end found) in
    steps_from (recorded_of m d) s found hart c.args.at c.later_of-from.result end c.later_of-from.ensures.point
    (c.end_of-end.ensures.end ∙ ap (λ (x : Debugged). end_of x.timeline.rounds s.standing On) same)
    (c.in_ok-found.ensures.finds m is)
    c.tell_or.result (of_same d c.find_told.new.run P same c.tell_or.ensures.standing m is)
