use Rattle.std.proofs.Common.{◌≡◌, ℕ, inl, inr, map}
use Rattle.std.proofs.lemmas.Result.{IfErr-weaker, err_from_is_err_and, on_ok_weaker}
use Rattle.execution_file.specs.Views.{turn_view}
use Rattle.execution_scripts.specs.Misfits.{StopsInCall}
use Rattle.execution_scripts.specs.Courses.{AreWithin, Course, IsOn}
use Rattle.execution_scripts.specs.declared.fault.Fault.{Fault}
use Rattle.execution_scripts.proofs.Going.{at}
use Rattle.execution_scripts.proofs.Loops.{on_fault_by}
use Rattle.execution_scripts.proofs.following.Follower.follow.Goals as goal

pub returns-in_err-follow_calls-clause-misfit : goal.returns-in_err-follow_calls-clause-misfit
returns-in_err-follow_calls-clause-misfit c =
    let f = c.args.self.now in
    let p = err_from_is_err_and c.from_residual.result c.from_residual.ensures.1 in
    rw (p.1, p.2)
    (on_fault_by _ (λ (x : Fault). (k : Course) → IsOn k 0 f → AreWithin k.lines (at f) → at f ≡ k.start → StopsInCall k.image k.lines (map turn_view c.args.calls.now) k.start x) _
    c.in_err-follow_calls.ensures.misfit (λ x u k o w s. inl (u k o w s)))

pub returns-clause-followed : goal.returns-clause-followed
returns-clause-followed c =
    on_ok_weaker c.follow_ends.result (λ u k o w s.
    let r = c.in_ok-follow_calls.ensures.called k o w s in
    let e = u k r.0 r.1 r.2 in
    (r.0, e.0, record { round = r.0; called = at c.follow_calls.new.self; calls = r.3; ends = e.1 })) c.follow_ends.ensures.ended

pub returns-clause-misfit : goal.returns-clause-misfit
returns-clause-misfit c =
    IfErr-weaker c.follow_ends.result _ _ (λ halt v. on_fault_by halt _ _ v (λ x u k o w s.
    let r = c.in_ok-follow_calls.ensures.called k o w s in
    inr (u k r.0 (map turn_view c.args.calls.now) r.1 r.2 r.3))) c.follow_ends.ensures.misfit
