use Rattle.std.proofs.Common.{◌≡◌, inl, arith, rules, Err}
use Rattle.machine.proofs.UntracedRounds.{none_run}
use Rattle.machine.proofs.untraced.UntracedMachine.walk_on_board.Goals as goal

pub returns-then-stretch-eq0-clause-walked : goal.returns-then-stretch-eq0-clause-walked
returns-then-stretch-eq0-clause-walked g c = (omega arith, none_run c.args.self.now (g.E.EventKeeper.keeps c.args.keeper.now))

pub returns-in_err-board-clause-walked : goal.returns-in_err-board-clause-walked
returns-in_err-board-clause-walked g c =
    let r : c.from_residual.result ≡ Err c.in_err-board.field-0.0 = search rules in
    rw r (0, inl (omega (arith, c.if-stretch-eq0.false)), none_run c.args.self.now (g.E.EventKeeper.keeps c.args.keeper.now))
