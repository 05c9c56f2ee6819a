use Rattle.std.proofs.Common.{ℕ, arith, subst}
use Rattle.std.proofs.lemmas.Result.{IfOk-weaker}
use Rattle.machine.specs.Machine.{Running}
use Rattle.replayer.specs.Past.{IsStateBefore}
use Rattle.replayer.specs.Replayed.{start_of}
use Rattle.replayer.proofs.Begun.{begins, harts_of}
use Rattle.replayer.proofs.RoundCount.{no_hart, none_before}
use Rattle.replayer.proofs.placing.state_before.Goals.{else-hart-harts, then-hart-harts}
use Rattle.replayer.proofs.placing.state_before.Goals as goal

pub state_sought-before-requires-clause-run : goal.state_sought-before-requires-clause-run
state_sought-before-requires-clause-run g c = λ lifetimes within.
    let made = c.in_ok-machine.ensures.machine in
    let order = c.in_ok-machine.ensures.in_order in
    let good = c.in_ok-machine.ensures.in_range in (
      start_of c.args.recording.now made.0,
      made.2,
      begins c.in_ok-machine.machine c.args.recording.now made.0 c.args.hart made.1 (omega (arith, c.if-hart-harts.true, c.harts.ensures.value)) (omega (arith, c.budget-budget.ensures.value, c.budget-budget.ensures.range.1))
          (λ cause. order.image cause good) (λ cause. order.plan cause good),
    )

pub returns-clause-before : goal.returns-clause-before
returns-clause-before g c =
    let r = c.args.recording.now in
    let made = c.in_ok-machine.ensures.machine in
    let m : Running = start_of r made.0 in
    let order = c.in_ok-machine.ensures.in_order in
    let good = c.in_ok-machine.ensures.in_range in
    elim c.if-hart-harts.branch [
      | then-hart-harts w ↦
          let b = begins c.in_ok-machine.machine r made.0 c.args.hart made.1 (omega (arith, w.if-hart-harts.true, c.harts.ensures.value)) (omega (arith, c.budget-budget.ensures.value, c.budget-budget.ensures.range.1))
          (λ cause. order.image cause good) (λ cause. order.plan cause good) in
          rw w.before-is
          (IfOk-weaker w.state_sought-before.result _ _ (λ x is. (made.0, made.1, subst (λ (n : ℕ). IsStateBefore n m c.args.hart c.args.place x) w.rounds.ensures is)) (w.state_sought-before.ensures.before m made.2 b))
      | else-hart-harts w ↦ rw w.before-is (
        made.0,
        made.1,
        λ round count h b. none_before r.rounds m c.args.hart c.args.place round count h (no_hart r.rounds m round c.args.hart count (omega (arith, w.if-hart-harts.false, c.harts.ensures.value, harts_of r made.0 made.1))) b,
      )
    ]
