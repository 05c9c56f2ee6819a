use Rattle.std.proofs.Common.{◌≡◌, ◌++◌, None}
use Rattle.picture.specs.Rows.{rows_after}
use Rattle.picture.proofs.Rowed.{rows_at}
use Rattle.picture.proofs.rows.rows_of.Given as goal

-- the rows so far, and those of the indexes that are left, are all
abbrev pub invariant-loop-number : goal.invariant-loop-number
invariant-loop-number l = l.rows.items ++ rows_at l.trace.events l.indexes l.number ≡ rows_after l.trace.events None l.indexes
