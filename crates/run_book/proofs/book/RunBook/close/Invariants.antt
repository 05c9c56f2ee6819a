use Rattle.std.proofs.Common.{◌≡◌, [], ◌++◌, map}
use Rattle.run_book.specs.Known.{known}
use Rattle.run_book.specs.Sitters.{held, sum_in}
use Rattle.run_book.proofs.book.RunBook.close.Given as goal

abbrev pub invariant-loop-seat : goal.invariant-loop-seat
invariant-loop-seat g l =
    (l.all.table_id ≡ l.table.shared.table_id) × (l.all.me.1 ≡ []) × (sum_in held l.all.me.0 ≡ 0)
    × (l.fn.seats.items ≡ l.seats.items ++ map (known l.table.shared.table_id) l.all.me.0)

abbrev pub decreases-loop-seat : goal.decreases-loop-seat
decreases-loop-seat g l = goal.left-loop-seat g l
