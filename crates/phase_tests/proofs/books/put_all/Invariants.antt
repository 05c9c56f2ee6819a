use Rattle.std.proofs.Common.{ℕ}
use Rattle.run_book.specs.Turns.{turn_of}
use Rattle.run_book.specs.Working.{IsHonest}
use Rattle.phase_tests.specs.declared.books.Mark.{Mark}
use Rattle.phase_tests.proofs.books.put_all.Given as goal

abbrev pub turn_in : Mark → ℕ
turn_in e = turn_of e.ticket.round e.ticket.hart

abbrev pub seat_of : Mark → ℕ
seat_of e = e.ticket.seat

abbrev pub invariant-loop : goal.invariant-loop
invariant-loop g l = IsHonest turn_in seat_of l.book.table l.book.harts l.s
