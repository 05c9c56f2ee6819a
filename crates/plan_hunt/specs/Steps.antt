-- The single steps to a smaller plan.
use Rattle.std.specs.Prelude.{◌≡◌, ℕ, ◌+◌, ◌-◌, ◌/◌, ◌%◌, ◌<◌, ◌≤◌, Bool, true, nat_lt, List, [], ◌∷◌, ◌++◌, drop, length, map, max, min, slice_index, slice_index_or, slice_set, take}
use Rattle.std.specs.List.{sum}
use Rattle.round_planner.specs.Quotas.{Planned}
use Rattle.plan_hunt.specs.Endings.{Ended}
use Rattle.plan_hunt.specs.declared.step.Change.{Change}
use Rattle.plan_hunt.specs.declared.step.Change.TheVariants.{LeftOut, Least, Each, Single}
use Rattle.plan_hunt.specs.declared.step.Step.{Step}
use Rattle.plan_hunt.specs.declared.step.Way.{Way}
use Rattle.plan_hunt.specs.declared.step.Way.TheVariants.{ToOne, ToHalf, OneLess}

-- a quota that was made smaller: 1, half of it rounded up, or one less, but at least 1
abbrev pub smaller : Way → ℕ → ℕ
smaller ToOne n = 1
smaller ToHalf n = n / 2 + n % 2
smaller OneLess n = max (n - 1) 1

-- the least quota of a row
abbrev pub least : List ℕ → ℕ
least [] = 1000000
least (n ∷ ns) = min n (least ns)

-- a row with another quota for one hart, where it has one
abbrev pub with_single : ℕ → Way → List ℕ → List ℕ
with_single hart w row = slice_set row hart (smaller w (slice_index row hart))

-- what stands in the place of a row: nothing, its least quota for all harts, the row with smaller quotas, or with one smaller quota
abbrev pub changed : Change → List ℕ → List (List ℕ)
changed LeftOut row = []
changed Least row = (least row ∷ []) ∷ []
changed (Each w) row = map (smaller w) row ∷ []
changed (Single hart w) row = with_single hart w row ∷ []

-- the rows after a step
abbrev pub rows_after : Step → List (List ℕ) → List (List ℕ)
rows_after s rows = take s.row rows ++ changed s.change (slice_index_or rows s.row []) ++ drop (s.row + 1) rows

-- the plan after a step
abbrev pub after_step : Step → Planned → Planned
after_step s p = record p { rows = rows_after s p.rows }

-- the size of a plan: how many rows it has, and the sum of its quotas
abbrev pub size : List (List ℕ) → ℕ
size [] = 0
size (row ∷ rows) = 1 + sum row + size rows

-- the hart is there whose quota is changed
abbrev pub has_hart : ℕ → Change → Bool
has_hart harts LeftOut = true
has_hart harts Least = true
has_hart harts (Each w) = true
has_hart harts (Single hart w) = nat_lt hart harts

-- the step changes what is there, and leaves a row at least, and less than there was
pub record IsStep (p : Planned) (s : Step) : Type 0 where
  pub within : s.row < length p.rows
  pub hart : has_hart p.harts s.change ≡ true
  pub some_rows : 1 ≤ length (rows_after s p.rows)
  pub is_smaller : size (rows_after s p.rows) < size p.rows

-- the step leads to this ending
pub record LeadsTo (ends : Planned → Ended) (e : Ended) (p : Planned) (s : Step) : Type 0 where
  pub step : IsStep p s
  pub same : ends (after_step s p) ≡ e

-- no single step leads to it
abbrev pub NoStepLeads : (Planned → Ended) → Ended → Planned → Type 0
NoStepLeads ends e p = (s : Step) → LeadsTo ends e p s → ⊥

-- a plan for the same harts, with the same budget, that isn't larger and ends the same, and from which no single step does
pub record IsShrunk (ends : Planned → Ended) (p q : Planned) : Type 0 where
  pub harts : q.harts ≡ p.harts
  pub budget : q.budget ≡ p.budget
  pub no_larger : size q.rows ≤ size p.rows
  pub same : ends q ≡ ends p
  pub least : NoStepLeads ends (ends p) q
