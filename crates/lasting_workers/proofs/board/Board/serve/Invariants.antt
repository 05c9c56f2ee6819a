use Rattle.parallel_phase.specs.Rounds.{IsWorker}
use Rattle.lasting_workers.proofs.board.Board.serve.Given as goal

abbrev pub invariant-loop : goal.invariant-loop
invariant-loop g l = IsWorker l.self.book.table l.self.book.harts l.seat
