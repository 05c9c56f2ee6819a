use Rattle.std.proofs.Common.{◌≡◌, ◌+◌, length, sym, ◌∙◌, ap, subst, arith}
use Rattle.round_planner.specs.Quotas.{quotas_of}
use Rattle.machine.specs.Machine.{after_rounds}
use Rattle.machine.specs.Untraced.{IsAfter, Untraced}
use Rattle.hunter.proofs.Rounds.{none_after, then_after}
use Rattle.hunter.proofs.Turns.{asks_here, asks_next, asks_none}
use Rattle.hunter.proofs.going.asks_within.Goals as goal

pub loop-round-init : goal.loop-round-init
loop-round-init g c =
    (λ m is. (none_after c.args.machine.now m is, asks_none m.code m.plan.budget (quotas_of m.plan) (length m.plan.rows) m.state), omega arith)

pub returns-then-branch : goal.returns-then-branch
returns-then-branch g c = λ m is.
    let i = c.loop-round.invariant.0 m is in
    let there = after_rounds c.loop-round._round m in
    sym (asks_here m.code m.plan.budget (quotas_of m.plan) (length m.plan.rows) c.loop-round._round c.args.rounds m.state c.loop-round-test.true
    (sym (c.in_ok-asks_in_next.ensures.asks there i.0) ∙ c.if-branch.true))

pub loop-round-preserved : goal.loop-round-preserved
loop-round-preserved g c =
    let n = c.loop-round._round in
    let stays = c.asks_in_next.ensures.stays in
    let one = subst (λ (u : Untraced). IsAfter 1 u c.go_on.new.machine) stays c.in_ok-go_on.ensures.run in (
      λ m is.
          let i = c.loop-round.invariant.0 m is in (
            then_after n 1 c.args.machine.now c.loop-round.machine c.go_on.new.machine (λ k it. (c.loop-round.invariant.0 k it).0) one m is,
            asks_next m.code m.plan.budget (quotas_of m.plan) (length m.plan.rows) n m.state i.1 (sym (c.in_ok-asks_in_next.ensures.asks (after_rounds n m) i.0) ∙ c.if-branch.false),
          ),
      omega (arith, c.in_ok-go_on.ensures.counted, c.loop-round.invariant.1, ap (λ (u : Untraced). u.rounds) stays),
    )
