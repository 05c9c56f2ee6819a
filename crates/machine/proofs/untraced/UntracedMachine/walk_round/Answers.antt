use Rattle.std.proofs.Common.{◌≡◌, ◌∙◌, sym, subst, arith, rules, lit<, Err}
use Rattle.machine.specs.Untraced.{HasRun, Untraced}
use Rattle.machine.specs.Walks.{HasStopped}
use Rattle.machine.proofs.UntracedRounds.{still_keeps, none_run}
use Rattle.machine.proofs.Walked.{stopped_run}
use Rattle.machine.proofs.untraced.UntracedMachine.walk_round.Goals as goal

pub returns-then-running_harts-eq0-clause-ran : goal.returns-then-running_harts-eq0-clause-ran
returns-then-running_harts-eq0-clause-ran g c =
    let stopped : HasStopped c.args.self.now = omega (arith, c.running_harts.ensures, c.if-running_harts-eq0.true) in
    stopped_run 1 c.args.self.now c.pass.new.self (g.E.EventKeeper.keeps c.args.keeper.now) stopped c.pass.ensures

pub returns-in_err-ends-clause-ran : goal.returns-in_err-ends-clause-ran
returns-in_err-ends-clause-ran g c =
    let keeps = g.E.EventKeeper.keeps c.args.keeper.now in
    let r : c.from_residual.result ≡ Err c.in_err-ends.field-0.0 = search rules in
    rw r (0, lit< tt, subst (λ (w : Untraced). HasRun 0 c.args.self.now w keeps keeps) (sym c.do_parallel_by.ensures.stays) (none_run c.args.self.now keeps))

pub returns-in_err-end_round-clause-ran : goal.returns-in_err-end_round-clause-ran
returns-in_err-end_round-clause-ran g c =
    let before = g.E.EventKeeper.keeps c.args.keeper.now in
    let keeps = g.E.EventKeeper.keeps c.end_round.new.keeper in
    let none = c.in_err-end_round.ensures in
    let same = none.err ∙ c.do_parallel_by.ensures.stays in
    let r : c.from_residual-in_err-end_round.result ≡ Err c.in_err-end_round.field-0.0 = search rules in
    rw r (
      0,
      lit< tt,
      subst (λ (w : Untraced). HasRun 0 c.args.self.now w before keeps) (sym same)
          (still_keeps 0 c.args.self.now c.args.self.now before before keeps (none_run c.args.self.now before) none.untold),
    )
