use Rattle.std.proofs.Common.{◌≡◌, ℕ, ◌<◌, true}
use Rattle.run_book.specs.Histories.{harts_of}
use Rattle.run_book.specs.Lists.{has}
use Rattle.run_book.specs.Turns.{turn_of}
use Rattle.run_book.proofs.gathered.Gathered.is_complete.Given as goal

abbrev pub invariant-loop-h : goal.invariant-loop-h
invariant-loop-h g l = (k : ℕ) → k < l.h → has (harts_of g.E.Entry.turn g.E.Entry.seat l.self.history) (turn_of l.self.round k) ≡ true
