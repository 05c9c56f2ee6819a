-- A table to which the rows of the plans that follow are joined one by one.
use Rattle.std.specs.Prelude.{◌≡◌, ◌≢◌, ℕ, ◌+◌, ◌-◌, ◌^◌, ◌<◌, ◌≤◌, ◌⊎◌, List, [], ◌∷◌, ◌++◌, All, length, min, slice_index_or, slice_set}
use Rattle.std.specs.List.{AllPairs, Any}
use Rattle.plan_hunt.specs.Adding.{IsNew, row}
use Rattle.plan_hunt.specs.Endings.{Ended}
use Rattle.plan_hunt.specs.Tables.{IsCount, IsTable}
use Rattle.plan_hunt.specs.declared.row.Row.{Row}

-- the ending's row counts the plans of the row that is joined too, up to the largest number
pub record CountsMore (old : List Row) (s : Row) (new : List Row) : Type 0 where
  pub index : ℕ
  pub was : Row
  pub within : index < length old
  pub at : slice_index_or old index was ≡ was
  pub ending : was.ending ≡ s.ending
  pub now : new ≡ slice_set old index (row was.ending was.first (min (was.plans + s.plans) (2 ^ 32 - 1)))

-- rows after a row is joined
abbrev pub Joins : List Row → Row → List Row → Type 0
Joins old s new = CountsMore old s new ⊎ (IsNew old s.ending × (new ≡ old ++ s ∷ []))

-- where the rows are the table of some plans, and the others that of the plans which follow, these are the table of all
abbrev pub JoinIsTable : List Row → List Row → List Row → Type 0
JoinIsTable rows others new = (ends : ℕ → Ended) (first n m : ℕ) → IsTable ends first n rows → IsTable ends (first + n) m others → n + m < 2 ^ 32 → IsTable ends first (n + m) new

-- it is the row of its ending, and counts all plans where that ending was joined, and else the first n
pub record IsPartRow (ends : ℕ → Ended) (first n m : ℕ) (joined : List Row) (r : Row) : Type 0 where
  pub from : first ≤ r.first
  pub below : r.first < first + (n + m)
  pub ending : r.ending ≡ ends r.first
  pub none_before : (i : ℕ) → first ≤ i → i < r.first → ends i ≢ r.ending
  pub plans : (Any (λ (y : Row). y.ending ≡ r.ending) joined × IsCount ends first r.ending (n + m) r.plans) ⊎ (IsNew joined r.ending × IsCount ends first r.ending n r.plans)
  pub early : (r.first < first + n) ⊎ Any (λ (y : Row). y.first ≡ r.first) joined

-- the table of the first n plans, with so many rows joined of the m that follow
pub record IsPart (ends : ℕ → Ended) (first n m : ℕ) (joined rows : List Row) : Type 0 where
  pub each : All (IsPartRow ends first n m joined) rows
  pub complete : (i : ℕ) → first ≤ i → i < first + n → Any (λ (r : Row). r.ending ≡ ends i) rows
  pub has_joined : All (λ (y : Row). Any (λ (r : Row). r.ending ≡ y.ending) rows) joined
  pub rising : AllPairs (λ (q r : Row). q.first < r.first) rows
