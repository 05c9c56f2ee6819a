use Rattle.run_book.specs.Working.{KeepsRound}
use Rattle.parallel_phase.specs.Rounds.{IsWorker}
use Rattle.parallel_phase.proofs.working.take_part.Given as goal

abbrev pub invariant-loop : goal.invariant-loop
invariant-loop g l = IsWorker l.book.table l.book.harts l.seat × KeepsRound l.initial.seat l.seat
