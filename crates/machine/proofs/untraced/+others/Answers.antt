use Rattle.std.proofs.Common.{refl}
use Rattle.std.proofs.lemmas.List.Elements.{All-pop}
use Rattle.parallel_phase.specs.Rounds.{IsWorker}
use Rattle.machine.proofs.untraced.+others.Goals as goal

pub UntracedMachine::walk_beside-walk_with-requires-clause-seats : goal.UntracedMachine::walk_beside-walk_with-requires-clause-seats
UntracedMachine::walk_beside-walk_with-requires-clause-seats g t c κs within =
    let s = c.requires.seats in
    let book = c.args.board.now.book in (
      _,
      refl,
      record {
        own = s.own;
        first = s.first;
        others = (All-pop (IsWorker book.table book.harts) c.args.seats.others.items c.pop.new.self.items c.pop.result c.pop.ensures.items s.others).0;
      },
    )
