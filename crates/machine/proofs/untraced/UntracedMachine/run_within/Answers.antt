use Rattle.std.proofs.Common.{◌≡◌, ◌+◌, ◌-◌, ℕ, arith, inl, inr, rules, subst, Err}
use Rattle.machine.specs.Untraced.{HasRun}
use Rattle.machine.specs.Walks.{HasDone, HasSeenAll, HasStopped}
use Rattle.machine.proofs.UntracedRounds.{then_run}
use Rattle.machine.proofs.Walked.{has_done, none_done, seen_by, stopped_run}
use Rattle.machine.proofs.untraced.UntracedMachine.run_within.Goals as goal

pub returns-then-running_harts-eq0-clause-done : goal.returns-then-running_harts-eq0-clause-done
returns-then-running_harts-eq0-clause-done g c =
    let stopped : HasStopped c.args.self.now = omega (arith, c.running_harts.ensures, c.if-running_harts-eq0.true) in
    stopped_run c.args.rounds c.args.self.now c.pass.new.self (g.E.EventKeeper.keeps c.args.keeper.now) stopped c.pass.ensures

pub returns-then-running_harts-eq0-clause-known : goal.returns-then-running_harts-eq0-clause-known
returns-then-running_harts-eq0-clause-known g c =
    let stopped : HasStopped c.args.self.now = omega (arith, c.running_harts.ensures, c.if-running_harts-eq0.true) in
    record { shown = 0; most = omega arith; known = c.requires.known; all = inr (c.args.self.now, none_done c.args.self.now, stopped) }

pub returns-then-done-rounds-clause-done : goal.returns-then-done-rounds-clause-done
returns-then-done-rounds-clause-done g c =
    let u = c.walk_keeping.new.self in
    let walked = c.in_ok-done.ensures in
    let k = c.args.rounds - c.in_ok-done.done in
    let all : c.in_ok-done.done + k ≡ c.args.rounds = omega (arith, c.if-done-rounds.true) in
    let before = g.E.EventKeeper.keeps c.args.keeper.now in
    let keeps = g.E.EventKeeper.keeps c.walk_keeping.new.keeper in
    let stopped : HasStopped u = elim walked.ended [ inl e ↦ absurd (omega (arith, e, c.if-done-rounds.true)) | inr s ↦ s ] in
    subst (λ (n : ℕ). HasRun n c.args.self.now c.pass-then-done-rounds.new.self before keeps) all
    (then_run c.in_ok-done.done k c.args.self.now u c.pass-then-done-rounds.new.self before keeps keeps walked.done (stopped_run k u c.pass-then-done-rounds.new.self keeps stopped c.pass-then-done-rounds.ensures))

pub returns-then-done-rounds-clause-known : goal.returns-then-done-rounds-clause-known
returns-then-done-rounds-clause-known g c =
    let u = c.walk_keeping.new.self in
    let k = c.in_ok-done.done in
    let v = c.walk_keeping.new.visitor.visitor.now in
    let walked = c.in_ok-done.ensures in
    let stopped : HasStopped u = elim walked.ended [ inl e ↦ absurd (omega (arith, e, c.if-done-rounds.true)) | inr s ↦ s ] in
    let done : HasDone k c.args.self.now u = has_done k c.args.self.now u (g.E.EventKeeper.keeps c.args.keeper.now) (g.E.EventKeeper.keeps c.walk_keeping.new.keeper) walked.done in
    let all : HasSeenAll g.V.Visitor.knows c.args.visitor.now v c.args.self.now c.args.rounds =
    record { shown = k; most = walked.most; known = walked.known.1; all = inr (u, done, stopped) } in
    let same = walked.known.0 in
    seen_by g.V.Visitor.knows c.args.rounds c.args.self.now c.args.visitor.now v _ all (search rules)

pub returns-in_err-done-clause-cut_off : goal.returns-in_err-done-clause-cut_off
returns-in_err-done-clause-cut_off g c =
    let r : c.from_residual.result ≡ Err c.in_err-done.field-0.0 = search rules in
    rw r c.in_err-done.ensures.cut_off

pub returns-clause-known : goal.returns-clause-known
returns-clause-known g c =
    let k = c.in_ok-done.done in
    let v = c.walk_keeping.new.visitor.visitor.now in
    let walked = c.in_ok-done.ensures in
    let all : HasSeenAll g.V.Visitor.knows c.args.visitor.now v c.args.self.now c.args.rounds =
    record { shown = k; most = walked.most; known = walked.known.1; all = inl (omega (arith, walked.most, c.if-done-rounds.false)) } in
    let same = walked.known.0 in
    seen_by g.V.Visitor.knows c.args.rounds c.args.self.now c.args.visitor.now v _ all (search rules)
