use Rattle.std.proofs.Common.{◌≡◌, ℕ, ◌+◌, ◌-◌, subst, arith}
use Rattle.machine.specs.Untraced.{IsAfter}
use Rattle.hunter.proofs.Rounds.{none_after, then_after}
use Rattle.hunter.proofs.settling.settle.Goals as goal

pub returns-then-not-asked-clause-run : goal.returns-then-not-asked-clause-run
returns-then-not-asked-clause-run g c = (omega arith, none_after c.args.machine.now)

pub loop-left-init : goal.loop-left-init
loop-left-init g c =
    let none : 0 ≡ c.args.rounds - c.args.rounds = omega arith in
    (subst (λ (n : ℕ). IsAfter n c.args.machine.now c.args.machine.now) none (none_after c.args.machine.now), omega arith, omega arith)

pub returns-then-are_same_harts-clause-run : goal.returns-then-are_same_harts-clause-run
returns-then-are_same_harts-clause-run g c =
    let i = c.loop-left.invariant in
    let more : (c.args.rounds - c.loop-left.left) + c.turns_of-step.result ≡ c.args.rounds - (c.loop-left.left - c.turns_of-step.result) = omega (arith, i.2, c.loop-left-test.true) in (
      omega arith,
      subst (λ (n : ℕ). IsAfter n c.args.machine.now c.go_on.new.machine) more
          (then_after (c.args.rounds - c.loop-left.left) c.turns_of-step.result c.args.machine.now c.loop-left.machine c.go_on.new.machine i.0 c.in_ok-go_on.ensures.run),
    )

pub loop-left-preserved : goal.loop-left-preserved
loop-left-preserved g c =
    let i = c.loop-left.invariant in
    let more : (c.args.rounds - c.loop-left.left) + c.turns_of-step.result ≡ c.args.rounds - (c.loop-left.left - c.turns_of-step.result) = omega (arith, i.2, c.loop-left-test.true) in (
      subst (λ (n : ℕ). IsAfter n c.args.machine.now c.go_on.new.machine) more
          (then_after (c.args.rounds - c.loop-left.left) c.turns_of-step.result c.args.machine.now c.loop-left.machine c.go_on.new.machine i.0 c.in_ok-go_on.ensures.run),
      omega (arith, c.in_ok-go_on.ensures.counted, i.1, more),
      omega (arith, i.2),
    )

pub returns-clause-run : goal.returns-clause-run
returns-clause-run g c =
    let i = c.loop-left.invariant in
    let whole : (c.args.rounds - c.loop-left.left) + c.loop-left.left ≡ c.args.rounds = omega (arith, i.2) in (
      omega arith,
      subst (λ (n : ℕ). IsAfter n c.args.machine.now c.go_on-2.new.machine) whole
          (then_after (c.args.rounds - c.loop-left.left) c.loop-left.left c.args.machine.now c.loop-left.machine c.go_on-2.new.machine i.0 c.in_ok-go_on-2.ensures.run),
    )
