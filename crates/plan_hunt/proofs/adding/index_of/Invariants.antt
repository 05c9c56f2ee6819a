use Rattle.std.proofs.Common.{ℕ, ◌<◌, ◌≢◌, get_or}
use Rattle.plan_hunt.specs.declared.row.Row.{Row}
use Rattle.plan_hunt.proofs.adding.index_of.Given as goal

-- none of the rows so far has the ending
abbrev pub invariant-loop-index : goal.invariant-loop-index
invariant-loop-index l = (k : ℕ) (d : Row) → k < l.index → (get_or l.rows k d).ending ≢ l.ending
