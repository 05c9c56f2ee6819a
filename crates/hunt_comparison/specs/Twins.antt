-- The endings of a table, each with the same ending of another table.
use Rattle.std.specs.Prelude.{◌≡◌, ◌-◌, ◌≤◌, List, All, Option, MatchOption, length, map}
use Rattle.std.specs.List.{HoldsAt}
use Rattle.plan_hunt.specs.Adding.{IsNew}
use Rattle.plan_hunt.specs.Endings.{Ended}
use Rattle.plan_hunt.specs.declared.row.Row.{Row}
use Rattle.hunt_comparison.specs.declared.twins.Compared.{Compared}
use Rattle.hunt_comparison.specs.declared.twins.Twin.{Twin}

-- the row of the twin's number, from 1 on, has the ending, and as many plans
pub record IsTwin (rows : List Row) (e : Ended) (t : Twin) : Type 0 where
  pub some : 1 ≤ t.number
  pub within : t.number ≤ length rows
  pub at : HoldsAt (λ (r : Row). (r.ending ≡ e) × (r.plans ≡ t.plans)) rows (t.number - 1)

-- the twin of an ending among some rows; none where no row has the ending
abbrev pub IsTwinOf : List Row → Ended → Option Twin → Type 0
IsTwinOf rows e twin = MatchOption twin (IsNew rows e) (IsTwin rows e)

abbrev pub row_of : Compared → Row
row_of c = c.row.now

abbrev pub HasTwin : List Row → Compared → Type 0
HasTwin others c = IsTwinOf others c.row.now.ending c.twin

-- the rows, each with its twin among the others
pub record AreCompared (rows others : List Row) (compared : List Compared) : Type 0 where
  pub of_rows : map row_of compared ≡ rows
  pub twins : All (HasTwin others) compared
