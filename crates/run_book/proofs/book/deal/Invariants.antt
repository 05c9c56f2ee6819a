use Rattle.std.proofs.Common.{◌≡◌, ℕ, ◌+◌, ◌≤◌, [], ◌++◌, map, vec_capacity, vec_len}
use Rattle.run_book.specs.Known.{known}
use Rattle.run_book.specs.Sitters.{newcomers, newcomers_from}
use Rattle.run_book.proofs.book.deal.Given as goal

abbrev pub invariant-loop-number : goal.invariant-loop-number
invariant-loop-number g l =
    (l.rest.table_id ≡ l.table.table_id) × (l.rest.me.1 ≡ []) × (vec_len l.seats ≡ l.number) × (l.count ≤ vec_capacity l.seats)
    × ((left : ℕ) × (l.number + left ≡ l.count) × (l.rest.me.0 ≡ newcomers_from l.harts l.number left)
    × (map (known l.table.table_id) (newcomers l.harts l.count) ≡ l.seats.items ++ map (known l.table.table_id) (newcomers_from l.harts l.number left)))
