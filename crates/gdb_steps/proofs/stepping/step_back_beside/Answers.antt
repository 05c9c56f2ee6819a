use Rattle.std.proofs.Common.{◌≡◌, ap, ◌∙◌}
use Rattle.std.specs.Prelude.{IfOk}
use Rattle.watching.specs.declared.watchpoint.Way.TheVariants.{Back}
use Rattle.gdb_runs.specs.declared.debugged.Debugged.{Debugged}
use Rattle.gdb_runs.specs.Sessions.{Recorded, recorded_of, state_of}
use Rattle.gdb_steps.specs.Steps.{no_step}
use Rattle.gdb_runs.specs.Standings.{told_or}
use Rattle.gdb_steps.proofs.Arriving.{steps_back}
use Rattle.gdb_runs.proofs.Runs.{of_same}
use Rattle.gdb_steps.proofs.stepping.step_back_beside.Goals as goal

pub returns-clause-steps : goal.returns-clause-steps
returns-clause-steps g c = λ m is.
    let d = c.args.run.now in
    let s = state_of c.args.session.now in
    let hart = s.standing.general in
    let found = c.in_ok-found.found in
    let stays = c.no_step-stays.result in
    let same = c.in_ok-found.ensures.stays in
    let P : Recorded → Type 0 = λ r. IfOk c.tell_or.result (λ t. t ≡ told_or r s stays found) in
    steps_back (recorded_of m d) s found hart c.sought_from-from.result stays c.sought_from-from.ensures.from
    (c.no_step-stays.ensures.stands ∙ ap (λ (x : Debugged). no_step x.timeline.rounds s.standing Back hart) same)
    (c.in_ok-found.ensures.finds m is)
    c.tell_or.result (of_same d c.find_told.new.run P same c.tell_or.ensures.standing m is)
