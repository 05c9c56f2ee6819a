use Rattle.std.proofs.Common.{◌≡◌}
use Rattle.run_book.proofs.book.take.Given as goal

abbrev pub invariant-loop : goal.invariant-loop
invariant-loop g l = (l.place.table_id ≡ l.initial.place.table_id) × (l.place.me ≡ l.initial.place.me) × (l.blank ≡ l.initial.blank)
