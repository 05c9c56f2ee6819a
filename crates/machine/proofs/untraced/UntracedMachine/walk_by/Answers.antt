use Rattle.std.proofs.Common.{◌≡◌, ◌+◌, ◌-◌, ◌∙◌, ℕ, inl, inr, refl, sym, ap, subst, arith, rules, Err}
use Rattle.round_planner.specs.Quotas.{Planned}
use Rattle.hart_rounds.specs.Starts.{keeps_log}
use Rattle.guest_rounds.specs.Crews.{MayShare}
use Rattle.machine.specs.Untraced.{HasRun}
use Rattle.machine.specs.Walks.{MayWalk}
use Rattle.machine.proofs.Gathered.{none_shared, shared_few, shared_then}
use Rattle.machine.proofs.UntracedRounds.{none_run, then_run}
use Rattle.machine.proofs.Walked.{along_next, has_done, is_shown, learned_next, may_walk_on, may_walk_round, none_learned, starts_along}
use Rattle.machine.proofs.untraced.UntracedMachine.walk_by.Goals as goal

pub loop-done-init : goal.loop-done-init
loop-done-init g c =
    let all : c.args.stretch.rounds ≡ c.args.stretch.rounds - 0 = omega arith in
    record {
      run = none_run c.args.self.now (g.E.EventKeeper.keeps c.args.keeper.now);
      opening = refl;
      sound = subst (λ (k : ℕ). MayWalk g.E.EventKeeper.may_keep (g.E.EventKeeper.keeps c.args.keeper.now) k c.args.self.now) all c.requires.sound;
      along = inl refl;
      form = c.requires.form;
      known = none_learned g.V.Visitor.knows c.args.stretch.rounds c.args.self.now c.args.visitor.now;
      plan = refl;
      may = c.requires.may;
      few = omega arith;
      gathered = none_shared c.args.self.now.plan.harts c.args.self.now c.args.self.now c.args.crew.now.seat;
    }

pub walk_round-requires-clause-rounds : goal.walk_round-requires-clause-rounds
walk_round-requires-clause-rounds g c = λ lifetimes within. omega (arith, c.loop-done.invariant.run.rounds, c.requires.rounds, c.loop-done-test.true)

pub walk_round-requires-clause-start : goal.walk_round-requires-clause-start
walk_round-requires-clause-start g c = λ lifetimes within.
    let i = c.loop-done.invariant in
    starts_along g.E.EventKeeper.logs g.S.RunStarts.starts c.loop-done.done c.args.self.now c.loop-done.self c.requires.starts i.run.rounds i.along

pub walk_round-requires-clause-sound : goal.walk_round-requires-clause-sound
walk_round-requires-clause-sound g c = λ lifetimes within.
    may_walk_round g.E.EventKeeper.may_keep (g.E.EventKeeper.keeps c.loop-done.keeper) c.loop-done.done c.args.stretch.rounds c.loop-done.self c.loop-done-test.true c.loop-done.invariant.sound

pub returns-in_err-walk_round-clause-walked : goal.returns-in_err-walk_round-clause-walked
returns-in_err-walk_round-clause-walked g c =
    let none = c.in_err-walk_round.ensures.ran in
    let r : c.from_residual.result ≡ Err c.in_err-walk_round.field-0.0 = search rules in
    rw r (
      c.loop-done.done + none.0,
      inl (omega (arith, none.1, c.loop-done-test.true)),
      then_run c.loop-done.done none.0 c.args.self.now c.loop-done.self c.walk_round.new.self (g.E.EventKeeper.keeps c.args.keeper.now)
          (g.E.EventKeeper.keeps c.loop-done.keeper) (g.E.EventKeeper.keeps c.walk_round.new.keeper) c.loop-done.invariant.run none.2,
    )

pub after_round-requires : goal.after_round-requires
after_round-requires g c =
    let i = c.loop-done.invariant in
    let before = g.E.EventKeeper.keeps c.args.keeper.now in
    let after = g.E.EventKeeper.keeps c.walk_round.new.keeper in
    let all = then_run c.loop-done.done 1 c.args.self.now c.loop-done.self c.walk_round.new.self before (g.E.EventKeeper.keeps c.loop-done.keeper) after i.run c.in_ok-walk_round.ensures.ran in
    is_shown g.V.Visitor.knows c.args.stretch.rounds c.loop-done.done c.args.self.now c.walk_round.new.self c.args.visitor.now c.loop-done.visitor c.loop-done-test.true c.requires.known i.known
    (has_done (c.loop-done.done + 1) c.args.self.now c.walk_round.new.self before after all)

pub returns-in_err-after_round-clause-walked : goal.returns-in_err-after_round-clause-walked
returns-in_err-after_round-clause-walked g c =
    let r : c.from_residual-in_err-after_round.result ≡ Err c.in_err-after_round.field-0.0 = search rules in
    rw r (
      c.loop-done.done + 1,
      inr (omega (arith, c.loop-done-test.true), c.in_err-after_round.ensures.failed),
      then_run c.loop-done.done 1 c.args.self.now c.loop-done.self c.walk_round.new.self (g.E.EventKeeper.keeps c.args.keeper.now)
          (g.E.EventKeeper.keeps c.loop-done.keeper) (g.E.EventKeeper.keeps c.walk_round.new.keeper) c.loop-done.invariant.run c.in_ok-walk_round.ensures.ran,
    )

pub returns-in-Enough-clause-walked : goal.returns-in-Enough-clause-walked
returns-in-Enough-clause-walked g c = (
  omega (arith, c.loop-done-test.true),
  then_run c.loop-done.done 1 c.args.self.now c.loop-done.self c.walk_round.new.self (g.E.EventKeeper.keeps c.args.keeper.now)
      (g.E.EventKeeper.keeps c.loop-done.keeper) (g.E.EventKeeper.keeps c.walk_round.new.keeper) c.loop-done.invariant.run c.in_ok-walk_round.ensures.ran,
)

pub returns-in-Enough-clause-sound : goal.returns-in-Enough-clause-sound
returns-in-Enough-clause-sound g c =
    let one = c.in_ok-walk_round.ensures in
    may_walk_on g.E.EventKeeper.may_keep (g.E.EventKeeper.keeps c.loop-done.keeper) (g.E.EventKeeper.keeps c.walk_round.new.keeper) c.loop-done.done c.args.stretch.rounds c.loop-done.self c.walk_round.new.self
    c.loop-done-test.true c.loop-done.invariant.sound one.stopped one.next

pub returns-in-Enough-clause-known : goal.returns-in-Enough-clause-known
returns-in-Enough-clause-known g c =
    let i = c.loop-done.invariant in
    let before = g.E.EventKeeper.keeps c.args.keeper.now in
    let after = g.E.EventKeeper.keeps c.walk_round.new.keeper in
    let all = then_run c.loop-done.done 1 c.args.self.now c.loop-done.self c.walk_round.new.self before (g.E.EventKeeper.keeps c.loop-done.keeper) after i.run c.in_ok-walk_round.ensures.ran in
    learned_next g.V.Visitor.knows c.args.stretch.rounds c.loop-done.done c.args.self.now c.walk_round.new.self c.args.visitor.now c.loop-done.visitor c.after_round.new.self c.loop-done-test.true i.known
    (has_done (c.loop-done.done + 1) c.args.self.now c.walk_round.new.self before after all) c.in_ok-after_round.ensures.known

pub returns-in-Enough-clause-gathered : goal.returns-in-Enough-clause-gathered
returns-in-Enough-clause-gathered g c =
    let i = c.loop-done.invariant in
    let one = c.in_ok-walk_round.ensures in
    shared_then c.loop-done.shared c.args.self.now.plan.harts c.loop-done.self.plan.harts c.from-shared.result c.shares_next-shares.result c.args.self.now c.loop-done.self c.walk_round.new.self c.args.crew.now.seat c.loop-done.crew.seat
    c.walk_round.new.crew.seat (ap (λ (p : Planned). p.harts) i.plan) c.from-shared.ensures (omega (arith, i.run.rounds)) one.ran.rounds i.gathered one.gathered

pub loop-done-preserved : goal.loop-done-preserved
loop-done-preserved g c =
    let i = c.loop-done.invariant in
    let one = c.in_ok-walk_round.ensures in
    let before = g.E.EventKeeper.keeps c.args.keeper.now in
    let keeps = g.E.EventKeeper.keeps c.loop-done.keeper in
    let after = g.E.EventKeeper.keeps c.walk_round.new.keeper in
    let all = then_run c.loop-done.done 1 c.args.self.now c.loop-done.self c.walk_round.new.self before keeps after i.run one.ran in
    record {
      run = all;
      opening = one.opening ∙ i.opening;
      sound = may_walk_on g.E.EventKeeper.may_keep keeps after c.loop-done.done c.args.stretch.rounds c.loop-done.self c.walk_round.new.self c.loop-done-test.true i.sound one.stopped one.next;
      along = along_next keeps after c.loop-done.done c.args.self.now c.loop-done.self c.walk_round.new.self i.along one.stopped one.next;
      form = ap keeps_log one.form ∙ i.form;
      known = learned_next g.V.Visitor.knows c.args.stretch.rounds c.loop-done.done c.args.self.now c.walk_round.new.self c.args.visitor.now c.loop-done.visitor c.after_round.new.self c.loop-done-test.true i.known
          (has_done (c.loop-done.done + 1) c.args.self.now c.walk_round.new.self before after all) c.in_ok-after_round.ensures.known;
      plan = one.plan ∙ i.plan;
      may = subst (λ (p : Planned). MayShare c.walk_round.new.self.rounds p.harts c.walk_round.new.crew.board.now.book c.walk_round.new.crew.seat c.walk_round.new.crew.blank.items) (sym one.plan) one.may;
      few = shared_few c.loop-done.shared c.loop-done.done c.from-shared.result c.shares_next-shares.result c.from-shared.ensures i.few;
      gathered = shared_then c.loop-done.shared c.args.self.now.plan.harts c.loop-done.self.plan.harts c.from-shared.result c.shares_next-shares.result c.args.self.now c.loop-done.self c.walk_round.new.self c.args.crew.now.seat c.loop-done.crew.seat
          c.walk_round.new.crew.seat (ap (λ (p : Planned). p.harts) i.plan) c.from-shared.ensures (omega (arith, i.run.rounds)) one.ran.rounds i.gathered one.gathered;
    }

pub returns-clause-walked : goal.returns-clause-walked
returns-clause-walked g c =
    let end : c.loop-done.done ≡ c.args.stretch.rounds = omega (arith, c.loop-done-test.false, c.loop-done.auto.done-end) in
    (omega arith, subst (λ (n : ℕ). HasRun n c.args.self.now c.loop-done.self (g.E.EventKeeper.keeps c.args.keeper.now) (g.E.EventKeeper.keeps c.loop-done.keeper)) end c.loop-done.invariant.run)
