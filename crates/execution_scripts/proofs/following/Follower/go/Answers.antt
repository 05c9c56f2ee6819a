use Rattle.std.proofs.Common.{◌<◌, ◌≡◌, ℕ, length, refl, subst}
use Rattle.std.proofs.lemmas.Result.{err_from_is_err_and}
use Rattle.execution_file.specs.Deeds.{code_of, value_of}
use Rattle.execution_scripts.specs.Following.{line_of, stop_by}
use Rattle.execution_scripts.specs.Misfits.{IsFaultAt, IsGoMisfit, IsStepMisfit}
use Rattle.execution_scripts.specs.Courses.{Course, IsOn, Took}
use Rattle.execution_scripts.specs.declared.calls.Taken.{Taken}
use Rattle.execution_scripts.specs.declared.fault.Fault.{Fault}
use Rattle.execution_scripts.specs.declared.fault.Misfit.TheVariants.{Stops}
use Rattle.execution_scripts.proofs.Going.{at, on_fault}
use Rattle.execution_scripts.proofs.Loops.{Misses, go_by_step, on_fault_by}
use Rattle.execution_scripts.proofs.following.Follower.go.Goals as goal

pub returns-in_err-step-clause-misfit : goal.returns-in_err-step-clause-misfit
returns-in_err-step-clause-misfit c =
    let p = err_from_is_err_and c.from_residual.result c.from_residual.ensures.1 in
    rw (p.1, p.2)
    (on_fault_by _ (Misses IsStepMisfit c.args.self.now c.args.hart) _ c.in_err-step.ensures.misfit (λ x u k n o l.
    let w = u k n o l in
    record { hart = w.hart; step = w.step; why = go_by_step x.misfit k.image (line_of k.lines c.args.hart) n c.args.hart (at c.args.self.now) w.why }))

pub returns-in-Done-clause-went : goal.returns-in-Done-clause-went
returns-in-Done-clause-went c = λ k n o l.
    let t = c.in_ok-step.ensures.took k n o l in
    (t.0, subst (λ (x : Taken). Took x k.image (line_of k.lines c.args.hart) n c.args.hart (at c.args.self.now) (at c.step.new.self)) c.in-Done.is t.1)

pub returns-in-Called-clause-went : goal.returns-in-Called-clause-went
returns-in-Called-clause-went c = λ k n o l.
    let t = c.in_ok-step.ensures.took k n o l in
    (t.0, subst (λ (x : Taken). Took x k.image (line_of k.lines c.args.hart) n c.args.hart (at c.args.self.now) (at c.step.new.self)) c.in-Called.is t.1)

pub returns-in-Stopped-clause-misfit : goal.returns-in-Stopped-clause-misfit
returns-in-Stopped-clause-misfit c =
    let h = c.args.hart in
    let q = at c.step.new.self in
    on_fault c.fault_at.result (record { hart = h; step = c.done-done.result; misfit = Stops })
    (λ (x : Fault). (k : Course) (n : ℕ) → IsOn k n c.args.self.now → h < length k.lines → IsFaultAt IsGoMisfit k.image (line_of k.lines h) n h (at c.args.self.now) x) c.fault_at.ensures
    (λ k n o l.
    let t = subst (λ (x : Taken). Took x k.image (line_of k.lines h) n h (at c.args.self.now) q) c.in-Stopped.is (c.in_ok-step.ensures.took k n o l).1 in
    record {
      hart = refl;
      step = c.done-done.ensures;
      why = (code_of (stop_by q h), (value_of (stop_by q h), (q, record { stops = t.0; round = t.1; code = refl; value = refl })));
    })
