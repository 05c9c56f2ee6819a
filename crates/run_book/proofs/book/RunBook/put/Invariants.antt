use Rattle.std.proofs.Common.{◌≡◌}
use Rattle.run_book.proofs.book.RunBook.put.Given as goal

abbrev pub invariant-loop : goal.invariant-loop
invariant-loop g l = (l.s ≡ l.initial.s) × (l.e ≡ l.initial.e)
