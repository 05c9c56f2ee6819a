use Rattle.std.proofs.Common.{◌+◌, ◌≡◌, ℕ, List, map, subst, sym, take, ◌∙◌, arith, length}
use Rattle.std.proofs.lemmas.List.{length-map, take_all}
use Rattle.std.proofs.lemmas.Result.{err_from_is_err_and}
use Rattle.execution_file.specs.Recorded.{Turn}
use Rattle.execution_file.specs.Views.{turn_view}
use Rattle.execution_scripts.specs.Following.{AreCalled, line_of, round_from}
use Rattle.execution_scripts.specs.Misfits.{HasNoRound, IsCallMisfit, IsFaultAfter}
use Rattle.execution_scripts.specs.Courses.{AreWithin, Course, IsOn}
use Rattle.execution_scripts.specs.declared.fault.Fault.{Fault}
use Rattle.execution_scripts.proofs.Going.{at}
use Rattle.execution_scripts.proofs.Loops.{CallsDone, calls_more, calls_none, no_call, no_round, on_fault_by, turn_at, turns_next, within_same}
use Rattle.execution_scripts.proofs.following.Follower.follow_calls.Goals as goal

pub loop-turn-init : goal.loop-turn-init
loop-turn-init c = λ k o w s. (0, calls_none k c.args.self.now o w s)

pub loop-turn-preserved : goal.loop-turn-preserved
loop-turn-preserved c = λ k o w s.
    let us = c.args.calls.now in
    let i = c.loop-turn.turn-index in
    let g = c.loop-turn.invariant k o w s in
    let u = turn_at us i in
    let e = c.in_ok-enter.ensures.round k g.0 g.1.on in
    let x = c.in_ok-call.ensures.called k (round_from g.0 u.number) e.0 (within_same k.lines c.loop-turn.self c.enter.new.self c.in_ok-enter.ensures.way g.1.within) in (
      round_from g.0 u.number,
      subst (λ (ts : List Turn). CallsDone k ts (round_from g.0 u.number) c.call.new.self) (sym (turns_next us i c.loop-turn-test.true))
          (calls_more k (take i (map turn_view us)) u g.0 c.loop-turn.self c.enter.new.self c.call.new.self g.1 e.1 c.in_ok-enter.ensures.way x.0 x.1 x.2),
    )

pub returns-in_err-enter-clause-misfit : goal.returns-in_err-enter-clause-misfit
returns-in_err-enter-clause-misfit c =
    let us = c.args.calls.now in
    let i = c.loop-turn.turn-index in
    let p = err_from_is_err_and c.from_residual.result c.from_residual.ensures.1 in
    rw (p.1, p.2)
    (on_fault_by _ (λ (x : Fault). (k : Course) (n : ℕ) → IsOn k n c.loop-turn.self → HasNoRound n (turn_at us i) (at c.loop-turn.self) x) _ c.in_err-enter.ensures.misfit (λ x u k o w s.
    let g = c.loop-turn.invariant k o w s in
    no_round k us i g.0 c.loop-turn.self x c.loop-turn-test.true g.1 (u k g.0 g.1.on)))

pub returns-in_err-call-clause-misfit : goal.returns-in_err-call-clause-misfit
returns-in_err-call-clause-misfit c =
    let us = c.args.calls.now in
    let i = c.loop-turn.turn-index in
    let h = (turn_at us i).hart in
    let p = err_from_is_err_and c.from_residual-in_err-call.result c.from_residual-in_err-call.ensures.1 in
    rw (p.1, p.2)
    (on_fault_by _
    (λ (x : Fault). (k : Course) (n : ℕ) → IsOn k n c.enter.new.self → AreWithin k.lines (at c.enter.new.self) → IsFaultAfter IsCallMisfit k.image (line_of k.lines h) n h 0 (at c.enter.new.self) x)
    _ c.in_err-call.ensures.misfit (λ x u k o w s.
    let g = c.loop-turn.invariant k o w s in
    let e = c.in_ok-enter.ensures.round k g.0 g.1.on in
    no_call k us i g.0 c.loop-turn.self c.enter.new.self x c.loop-turn-test.true g.1 e.1 c.in_ok-enter.ensures.way
    (u k (round_from g.0 (turn_at us i).number) e.0 (within_same k.lines c.loop-turn.self c.enter.new.self c.in_ok-enter.ensures.way g.1.within))))

pub returns-clause-called : goal.returns-clause-called
returns-clause-called c = λ k o w s.
    let us = map turn_view c.args.calls.now in
    let g = c.loop-turn.invariant k o w s in (
      g.0,
      g.1.on,
      g.1.within,
      subst (λ (ts : List Turn). AreCalled k.image k.lines k.start ts g.0 (at c.loop-turn.self))
          (take_all c.loop-turn.turn-index us (omega (arith, c.loop-turn-test.false, length-map c.args.calls.now turn_view))) g.1.called,
    )
