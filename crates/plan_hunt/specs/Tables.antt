-- The endings of plans, as a table. `ends n` is the ending of plan n; the plans are those from a first one on, so many.
use Rattle.std.specs.Prelude.{◌≡◌, ◌≢◌, ℕ, zero, suc, ◌+◌, ◌<◌, ◌≤◌, ◌⊎◌, List, All}
use Rattle.std.specs.List.{AllPairs, Any}
use Rattle.plan_hunt.specs.Endings.{Ended}
use Rattle.plan_hunt.specs.declared.row.Row.{Row}

-- of the n plans from first on, so many lead to this ending
abbrev pub IsCount : (ℕ → Ended) → ℕ → Ended → ℕ → ℕ → Type 0
IsCount ends first e zero k = k ≡ 0
IsCount ends first e (suc n) k = ((ends (first + n) ≡ e) × ((j : ℕ) × (k ≡ suc j) × IsCount ends first e n j)) ⊎ ((ends (first + n) ≢ e) × IsCount ends first e n k)

-- the row of an ending: the first plan that leads there, and how many do
pub record IsRow (ends : ℕ → Ended) (first n : ℕ) (r : Row) : Type 0 where
  pub from : first ≤ r.first
  pub below : r.first < first + n
  pub ending : r.ending ≡ ends r.first
  pub none_before : (i : ℕ) → first ≤ i → i < r.first → ends i ≢ r.ending
  pub plans : IsCount ends first r.ending n r.plans

-- the table of n plans: each ending that one of them leads to has one row, in the order of the first plans
pub record IsTable (ends : ℕ → Ended) (first n : ℕ) (rows : List Row) : Type 0 where
  pub each : All (IsRow ends first n) rows
  pub complete : (i : ℕ) → first ≤ i → i < first + n → Any (λ (r : Row). r.ending ≡ ends i) rows
  pub rising : AllPairs (λ (q r : Row). q.first < r.first) rows

-- no plans have two tables
abbrev pub TablesAreUnique : Type 0
TablesAreUnique = (ends : ℕ → Ended) (first n : ℕ) (rows others : List Row) → IsTable ends first n rows → IsTable ends first n others → rows ≡ others
