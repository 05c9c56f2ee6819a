use Rattle.std.proofs.Common.{◌≡◌, ℕ, ◌+◌, ◌*◌, sym, ◌∙◌, ap, subst, arith}
use Rattle.round_planner.specs.Quotas.{quotas_of}
use Rattle.machine.specs.Machine.{after_rounds}
use Rattle.machine.specs.Untraced.{IsAfter, IsUntraced, Untraced}
use Rattle.hunter.proofs.Rounds.{next_turn, none_after, then_after}
use Rattle.hunter.proofs.Turns.{moves_first, moves_more}
use Rattle.hunter.proofs.looking.go_back.Goals as goal

pub loop-turn-init : goal.loop-turn-init
loop-turn-init g c =
    let none : 0 ≡ 0 * c.args.rows = omega arith in (
      subst (λ (n : ℕ). IsAfter n c.args.machine.now c.args.machine.now) none (none_after c.args.machine.now),
      λ m is. moves_first m.code m.plan.budget (quotas_of m.plan) c.args.rows m.state,
      omega arith,
    )

pub returns-then-are_alike-clause-run : goal.returns-then-are_alike-clause-run
returns-then-are_alike-clause-run g c =
    let t = c.loop-turn.turn in (
      omega arith,
      omega (arith, c.loop-turn-test.true),
      subst (λ (n : ℕ). IsAfter n c.args.machine.now c.go_on.new.machine) (next_turn t c.args.rows)
          (then_after (t * c.args.rows) c.args.rows c.args.machine.now c.loop-turn.machine c.go_on.new.machine c.loop-turn.invariant.0 c.in_ok-go_on.ensures.run),
    )

pub returns-then-are_alike-clause-first : goal.returns-then-are_alike-clause-first
returns-then-are_alike-clause-first g c = λ m is.
    let t = c.loop-turn.turn in
    let on = subst (λ (n : ℕ). IsAfter n c.args.machine.now c.go_on.new.machine) (next_turn t c.args.rows)
    (then_after (t * c.args.rows) c.args.rows c.args.machine.now c.loop-turn.machine c.go_on.new.machine c.loop-turn.invariant.0 c.in_ok-go_on.ensures.run) in
    let start = subst (λ (u : Untraced). IsUntraced m u) (sym c.requires.start) is in
    (c.loop-turn.invariant.1 m is, sym (c.are_alike.ensures m (after_rounds ((t + 1) * c.args.rows) m) start (on m is)) ∙ c.if-are_alike.true)

pub loop-turn-preserved : goal.loop-turn-preserved
loop-turn-preserved g c =
    let t = c.loop-turn.turn in
    let on = subst (λ (n : ℕ). IsAfter n c.args.machine.now c.go_on.new.machine) (next_turn t c.args.rows)
    (then_after (t * c.args.rows) c.args.rows c.args.machine.now c.loop-turn.machine c.go_on.new.machine c.loop-turn.invariant.0 c.in_ok-go_on.ensures.run) in (
      on,
      λ m is.
          let start = subst (λ (u : Untraced). IsUntraced m u) (sym c.requires.start) is in
          moves_more m.code m.plan.budget (quotas_of m.plan) c.args.rows (t + 1) m.state (c.loop-turn.invariant.1 m is)
          (sym (c.are_alike.ensures m (after_rounds ((t + 1) * c.args.rows) m) start (on m is)) ∙ c.if-are_alike.false),
      omega (arith, c.in_ok-go_on.ensures.counted, c.loop-turn.invariant.2, next_turn t c.args.rows),
    )
