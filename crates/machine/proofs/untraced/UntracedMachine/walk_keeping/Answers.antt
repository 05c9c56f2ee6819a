use Rattle.std.proofs.Common.{◌≡◌, ◌+◌, inl, rules, Err}
use Rattle.machine.proofs.UntracedRounds.{then_run}
use Rattle.machine.proofs.Walked.{cut_off_later, from_first, has_done, learned_all, learned_more, up_to_date}
use Rattle.machine.proofs.untraced.UntracedMachine.walk_keeping.Goals as goal

pub walk_on_board-requires-clause-sound : goal.walk_on_board-requires-clause-sound
walk_on_board-requires-clause-sound g c = λ lifetimes within. inl c.requires.sound

pub walk_on_board-requires-clause-known : goal.walk_on_board-requires-clause-known
walk_on_board-requires-clause-known g c = λ lifetimes within. from_first g.V.Visitor.knows c.args.rounds c.args.self.now c.args.visitor.now c.requires.known

pub returns-in_err-walked-clause-cut_off : goal.returns-in_err-walked-clause-cut_off
returns-in_err-walked-clause-cut_off g c =
    let r : c.from_residual.result ≡ Err c.in_err-walked.field-0.0 = search rules in
    rw r c.in_err-walked.ensures.walked

pub returns-then-not-walked-clause-known : goal.returns-then-not-walked-clause-known
returns-then-not-walked-clause-known g c =
    learned_all g.V.Visitor.knows c.args.rounds c.in_ok-walked.walked.rounds c.args.self.now c.args.visitor.now c.walk_on_board.new.visitor c.requires.known c.in_ok-walked.ensures.known

pub walk_on_board-requires-2-clause-known : goal.walk_on_board-requires-2-clause-known
walk_on_board-requires-2-clause-known g c = λ lifetimes within.
    let k = c.in_ok-walked.walked.rounds in
    let first = c.in_ok-walked.ensures in
    up_to_date g.V.Visitor.knows c.args.rounds k c.args.self.now c.walk_on_board.new.self c.args.visitor.now c.walk_on_board.new.visitor first.walked.0
    (from_first g.V.Visitor.knows c.args.rounds c.args.self.now c.args.visitor.now c.requires.known) first.known
    (has_done k c.args.self.now c.walk_on_board.new.self (g.E.EventKeeper.keeps c.args.keeper.now) (g.E.EventKeeper.keeps c.walk_on_board.new.keeper) first.walked.1)

pub returns-in_err-more-clause-cut_off : goal.returns-in_err-more-clause-cut_off
returns-in_err-more-clause-cut_off g c =
    let k = c.in_ok-walked.walked.rounds in
    let first = c.in_ok-walked.ensures in
    let cut = c.in_err-more.ensures.walked in
    let r : c.from_residual-in_err-more.result ≡ Err c.in_err-more.field-0.0 = search rules in
    rw r (
      k + cut.0,
      cut_off_later g.V.Visitor.may_fail k c.args.rounds cut.0 first.walked.0 cut.1,
      then_run k cut.0 c.args.self.now c.walk_on_board.new.self c.walk_on_board-2.new.self (g.E.EventKeeper.keeps c.args.keeper.now)
          (g.E.EventKeeper.keeps c.walk_on_board.new.keeper) (g.E.EventKeeper.keeps c.walk_on_board-2.new.keeper) first.walked.1 cut.2,
    )

pub returns-clause-done : goal.returns-clause-done
returns-clause-done g c =
    then_run c.in_ok-walked.walked.rounds c.in_ok-more.more.rounds c.args.self.now c.walk_on_board.new.self c.walk_on_board-2.new.self (g.E.EventKeeper.keeps c.args.keeper.now)
    (g.E.EventKeeper.keeps c.walk_on_board.new.keeper) (g.E.EventKeeper.keeps c.walk_on_board-2.new.keeper) c.in_ok-walked.ensures.walked.1 c.in_ok-more.ensures.walked.1

pub returns-clause-known : goal.returns-clause-known
returns-clause-known g c =
    let k = c.in_ok-walked.walked.rounds in
    let j = c.in_ok-more.more.rounds in
    let first = c.in_ok-walked.ensures in
    learned_all g.V.Visitor.knows c.args.rounds (k + j) c.args.self.now c.args.visitor.now c.walk_on_board-2.new.visitor c.requires.known
    (learned_more g.V.Visitor.knows c.args.rounds k j c.args.self.now c.walk_on_board.new.self c.args.visitor.now c.walk_on_board.new.visitor c.walk_on_board-2.new.visitor first.walked.0 first.known
    (has_done k c.args.self.now c.walk_on_board.new.self (g.E.EventKeeper.keeps c.args.keeper.now) (g.E.EventKeeper.keeps c.walk_on_board.new.keeper) first.walked.1) c.in_ok-more.ensures.known)
