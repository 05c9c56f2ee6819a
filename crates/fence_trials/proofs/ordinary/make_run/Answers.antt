use Rattle.std.proofs.Common.{IfSome, subst}
use Rattle.fence_trials.proofs.Judged.{run_added}
use Rattle.fence_trials.proofs.ordinary.make_run.Goals as goal

pub returns-in-Some : goal.returns-in-Some
returns-in-Some g c =
    let comes_to = g.E.Executer.comes_to c.args.guest.now in
    let n = c.args.number in
    let d = c.no_departures.result in
    run_added comes_to n c.args.ordinary.now c.add_run.new.ordinary d c.in-Some.came.ending c.add_run.result c.no_departures.ensures
    (subst (λ f. IfSome f (λ k. comes_to d n k.ending)) c.in-Some.is c.in_ok-came.ensures)
    c.requires c.add_run.ensures.new c.add_run.ensures.old
