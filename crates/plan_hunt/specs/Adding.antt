-- A table with one more plan.
use Rattle.std.specs.Prelude.{◌≡◌, ◌≢◌, ℕ, ◌+◌, ◌<◌, ◌⊎◌, List, [], ◌∷◌, ◌++◌, All, length, slice_index_or, slice_set}
use Rattle.plan_hunt.specs.Endings.{Ended}
use Rattle.plan_hunt.specs.declared.row.Row.{Row}

abbrev pub row : Ended → ℕ → ℕ → Row
row e first plans = record { ending = e; first = first; plans = plans }

-- no row has this ending
abbrev pub IsNew : List Row → Ended → Type 0
IsNew rows e = All (λ (r : Row). r.ending ≢ e) rows

-- the ending's row counts one plan more
pub record CountsOneMore (old new : List Row) (e : Ended) : Type 0 where
  pub index : ℕ
  pub was : Row
  pub within : index < length old
  pub at : slice_index_or old index was ≡ was
  pub ending : was.ending ≡ e
  pub now : new ≡ slice_set old index (row e was.first (was.plans + 1))

-- rows after plan n with this ending
abbrev pub Adds : List Row → ℕ → Ended → List Row → Type 0
Adds old n e new = CountsOneMore old new e ⊎ (IsNew old e × (new ≡ old ++ row e n 1 ∷ []))
