use Rattle.std.proofs.Common.{◌≡◌, ℕ, refl, ◌∙◌}
use Rattle.std.proofs.lemmas.Result.{err_from_is_err_and}
use Rattle.std.specs.Prelude.{false, true}
use Rattle.execution_scripts.specs.Following.{line_of}
use Rattle.execution_scripts.specs.Misfits.{IsCallMisfit, IsFaultAfter, IsGoMisfit}
use Rattle.execution_scripts.specs.Courses.{AreWithin, Course, IsOn}
use Rattle.execution_scripts.specs.declared.fault.Fault.{Fault}
use Rattle.execution_scripts.specs.declared.fault.Misfit.TheVariants.{NoCall}
use Rattle.execution_scripts.proofs.Going.{at, on_fault}
use Rattle.execution_scripts.proofs.Loops.{Misses, are_left, call_misfit, gone_enough, gone_more, gone_none, gone_there, gone_to_call, on_fault_by}
use Rattle.execution_scripts.proofs.following.Follower.call.Goals as goal

pub loop-step-init : goal.loop-step-init
loop-step-init c = λ k n o w. gone_none k n c.args.hart c.args.self.now o w

pub loop-step-preserved : goal.loop-step-preserved
loop-step-preserved c = λ k n o w.
    let h = c.args.hart in
    let f = c.args.self.now in
    let i = c.loop-step._step in
    let a = are_left k n h c.left-step-end.result f o c.left-step-end.ensures.fits c.left-step-end.ensures.left in
    let g = c.loop-step.invariant k n o w in
    let m = c.in_ok-is_call.ensures.went k n g.on (gone_there k n h 0 i c.left-step-end.result (at f) c.loop-step.self g a c.loop-step-test.true) in
    gone_more k n h 0 i c.left-step-end.result false (at f) c.loop-step.self c.go.new.self g a c.loop-step-test.true m.0 m.1.0 (m.1.1 ∙ c.if-is_call.false)

pub returns-then-is_call-clause-called : goal.returns-then-is_call-clause-called
returns-then-is_call-clause-called c = λ k n o w.
    let h = c.args.hart in
    let f = c.args.self.now in
    let i = c.loop-step._step in
    let a = are_left k n h c.left-step-end.result f o c.left-step-end.ensures.fits c.left-step-end.ensures.left in
    let g = c.loop-step.invariant k n o w in
    let m = c.in_ok-is_call.ensures.went k n g.on (gone_there k n h 0 i c.left-step-end.result (at f) c.loop-step.self g a c.loop-step-test.true) in
    let more = gone_more k n h 0 i c.left-step-end.result true (at f) c.loop-step.self c.go.new.self g a c.loop-step-test.true m.0 m.1.0 (m.1.1 ∙ c.if-is_call.true) in
    (m.0, more.within, gone_to_call k n h i c.left-step-end.result (at f) c.loop-step.self c.go.new.self g a c.loop-step-test.true m.1.0 (m.1.1 ∙ c.if-is_call.true))

pub returns-in_err-is_call-clause-misfit : goal.returns-in_err-is_call-clause-misfit
returns-in_err-is_call-clause-misfit c =
    let h = c.args.hart in
    let f = c.args.self.now in
    let i = c.loop-step._step in
    let p = err_from_is_err_and c.from_residual.result c.from_residual.ensures.1 in
    rw (p.1, p.2)
    (on_fault_by _ (Misses IsGoMisfit c.loop-step.self h) _ c.in_err-is_call.ensures.misfit (λ x u k n o w.
    let a = are_left k n h c.left-step-end.result f o c.left-step-end.ensures.fits c.left-step-end.ensures.left in
    let g = c.loop-step.invariant k n o w in
    call_misfit k n h i c.left-step-end.result (at f) c.loop-step.self x g a c.loop-step-test.true
    (u k n g.on (gone_there k n h 0 i c.left-step-end.result (at f) c.loop-step.self g a c.loop-step-test.true))))

pub returns-clause-misfit : goal.returns-clause-misfit
returns-clause-misfit c =
    let h = c.args.hart in
    let f = c.args.self.now in
    on_fault c.fault_at.result (record { hart = h; step = c.done.result; misfit = NoCall })
    (λ (x : Fault). (k : Course) (n : ℕ) → IsOn k n f → AreWithin k.lines (at f) → IsFaultAfter IsCallMisfit k.image (line_of k.lines h) n h 0 (at f) x) c.fault_at.ensures
    (λ k n o w.
    let a = are_left k n h c.left-step-end.result f o c.left-step-end.ensures.fits c.left-step-end.ensures.left in
    let g = c.loop-step.invariant k n o w in
    record {
      place = at c.loop-step.self;
      runs = g.runs;
      fault = record { hart = refl; step = c.done.ensures; why = gone_enough k n h 0 c.loop-step._step c.left-step-end.result (at f) c.loop-step.self g a c.loop-step-test.false };
    })
