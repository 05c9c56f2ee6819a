use Rattle.std.proofs.Common.{ℕ, ◌+◌, if◌then◌else◌}
use Rattle.std.proofs.lemmas.Result.{err_from_is_err_and}
use Rattle.execution_scripts.specs.Misfits.{IsGoMisfit}
use Rattle.execution_scripts.proofs.Going.{at}
use Rattle.execution_scripts.proofs.Loops.{Misses, are_left, end_misfit, gone_all, gone_more, gone_none, gone_there, on_fault_by}
use Rattle.execution_scripts.proofs.following.Follower.run_on.Goals as goal

pub loop-step-init : goal.loop-step-init
loop-step-init c = λ k n o w. (0, gone_none k n c.args.hart c.args.self.now o w)

pub loop-step-preserved : goal.loop-step-preserved
loop-step-preserved c = λ k n o w.
    let h = c.args.hart in
    let f = c.args.self.now in
    let i = c.loop-step._step in
    let a = are_left k n h c.left-step-end.result f o c.left-step-end.ensures.fits c.left-step-end.ensures.left in
    let g = c.loop-step.invariant k n o w in
    let m = c.in_ok-go.ensures.went k n g.1.on (gone_there k n h g.0 i c.left-step-end.result (at f) c.loop-step.self g.1 a c.loop-step-test.true) in
    (_, gone_more k n h g.0 i c.left-step-end.result c.in_ok-go.field-0 (at f) c.loop-step.self c.go.new.self g.1 a c.loop-step-test.true m.0 m.1.0 m.1.1)

pub returns-in_err-go-clause-misfit : goal.returns-in_err-go-clause-misfit
returns-in_err-go-clause-misfit c =
    let h = c.args.hart in
    let f = c.args.self.now in
    let i = c.loop-step._step in
    let p = err_from_is_err_and c.from_residual.result c.from_residual.ensures.1 in
    rw (p.1, p.2)
    (on_fault_by _ (Misses IsGoMisfit c.loop-step.self h) _ c.in_err-go.ensures.misfit (λ x u k n o w.
    let a = are_left k n h c.left-step-end.result f o c.left-step-end.ensures.fits c.left-step-end.ensures.left in
    let g = c.loop-step.invariant k n o w in (
      g.0,
      end_misfit k n h g.0 i c.left-step-end.result (at f) c.loop-step.self x g.1 a c.loop-step-test.true
          (u k n g.1.on (gone_there k n h g.0 i c.left-step-end.result (at f) c.loop-step.self g.1 a c.loop-step-test.true)),
    )))

pub returns-clause-ran : goal.returns-clause-ran
returns-clause-ran c = λ k n o w.
    let h = c.args.hart in
    let f = c.args.self.now in
    let a = are_left k n h c.left-step-end.result f o c.left-step-end.ensures.fits c.left-step-end.ensures.left in
    let g = c.loop-step.invariant k n o w in
    (g.1.on, g.1.within, record { calls = g.0; runs = g.1.runs; all = gone_all k n h g.0 c.loop-step._step c.left-step-end.result (at f) c.loop-step.self g.1 a c.loop-step-test.false })
