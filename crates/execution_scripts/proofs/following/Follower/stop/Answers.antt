use Rattle.std.proofs.Common.{◌<◌, ◌≡◌, ◌≢◌, ℕ, ap, length, refl, subst, sym, ◌∙◌}
use Rattle.std.proofs.lemmas.Result.{err_from_is_err_and}
use Rattle.execution_file.specs.Deeds.{code_of, value_of}
use Rattle.execution_file.specs.Recorded.{HartDeeds}
use Rattle.execution_file.specs.Views.{hart_view}
use Rattle.execution_scripts.specs.Following.{done_by, line_of}
use Rattle.execution_scripts.specs.Misfits.{IsEndMisfit, IsFaultAt, IsStepMisfit}
use Rattle.execution_scripts.specs.Courses.{Course, IsOn, Took}
use Rattle.execution_scripts.specs.declared.calls.Taken.{Taken}
use Rattle.execution_scripts.specs.declared.fault.Fault.{Fault}
use Rattle.execution_scripts.proofs.Going.{at, on_fault}
use Rattle.execution_scripts.proofs.Loops.{Misses, on_fault_by, stop_misfit, stop_why}
use Rattle.execution_scripts.proofs.following.Follower.stop.Goals as goal

pub returns-in_err-taken-clause-misfit : goal.returns-in_err-taken-clause-misfit
returns-in_err-taken-clause-misfit c =
    let p = err_from_is_err_and c.from_residual.result c.from_residual.ensures.1 in
    rw (p.1, p.2)
    (on_fault_by _ (Misses IsStepMisfit c.args.self.now c.args.hart) _ c.in_err-taken.ensures.misfit (λ x u k n o l line all some.
    stop_misfit k.image (line_of k.lines c.args.hart) n c.args.hart (at c.args.self.now) x (subst (λ (y : HartDeeds). y.code ≢ 0) line some) (u k n o l)))

pub returns-in-Some-clause-misfit : goal.returns-in-Some-clause-misfit
returns-in-Some-clause-misfit c =
    let h = c.args.hart in
    let part = c.args.part.now in
    let f = c.args.self.now in
    on_fault c.fault_at.result (record { hart = h; step = c.done-done.result; misfit = c.in-Some.misfit })
    (λ (x : Fault). (k : Course) (n : ℕ) → IsOn k n f → h < length k.lines → hart_view part ≡ line_of k.lines h → done_by (at f) h ≡ part.steps → part.code ≢ 0 →
    IsFaultAt IsEndMisfit k.image (line_of k.lines h) n h (at f) x) c.fault_at.ensures
    (λ k n o l line all some.
    let t = (c.in_ok-taken.ensures.took k n o l).1 in
    record {
      hart = refl;
      step = c.done-done.ensures;
      why = subst (λ (y : HartDeeds). IsEndMisfit c.in-Some.misfit k.image y n h (at f)) line
          (stop_why c.in-Some.misfit k.image (hart_view part) n h (at f) (at c.step.new.self) c.in_ok-taken.taken c.stop_of.result c.in-Some.ensures
          (subst (λ (y : HartDeeds). Took c.in_ok-taken.taken k.image y n h (at f) (at c.step.new.self)) (sym line) t) c.stop_of.ensures all some);
    })

pub returns-in-None-clause-stops : goal.returns-in-None-clause-stops
returns-in-None-clause-stops c = λ k n o l.
    let h = c.args.hart in
    let t = c.in_ok-taken.ensures.took k n o l in
    let x = subst (λ (y : Taken). Took y k.image (line_of k.lines h) n h (at c.args.self.now) (at c.step.new.self)) c.in-None.ensures.stopped t.1 in
    (t.0, record { stops = x.0; round = x.1; code = ap code_of (sym c.stop_of.ensures) ∙ c.in-None.ensures.code; value = ap value_of (sym c.stop_of.ensures) ∙ c.in-None.ensures.value })
