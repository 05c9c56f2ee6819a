-- Why a text is refused as a plan for a number of harts: a table of causes by number, the least of which is answered.
use Rattle.std.specs.Prelude.{◌≡◌, ℕ, ◌<◌, true, nat_lt, if◌then◌else◌, List, length, Result, Ok, Err}
use Rattle.host_io.specs.RunErrors.{plan_number}
use Rattle.host_io.specs.declared.plan_error.PlanError.{PlanError}
use Rattle.host_io.specs.declared.plan_error.PlanError.TheVariants.{NotAPlan, QuotaOutOfRange, RowLength, TooManyRows, OutOfMemory}
use Rattle.round_planner.specs.Grammar.{IsPlanText, numbers_of}
use Rattle.round_planner.specs.Rows.{has_out_of_range, has_odd_row}

-- the cause stands in the text
abbrev pub Stands : ℕ → List ℕ → PlanError → Type 0
Stands harts text NotAPlan = (rows : List (List (List ℕ))) → IsPlanText text rows → ⊥
Stands harts text QuotaOutOfRange = (rows : List (List (List ℕ))) × IsPlanText text rows × (has_out_of_range (numbers_of rows) ≡ true)
Stands harts text RowLength = (rows : List (List (List ℕ))) × IsPlanText text rows × (has_odd_row harts (numbers_of rows) ≡ true)
Stands harts text TooManyRows = (rows : List (List (List ℕ))) × IsPlanText text rows × (256 < length rows)
Stands harts text OutOfMemory = ⊥

-- it stands in the text, and none of a lesser number does
pub record IsLeast (harts : ℕ) (text : List ℕ) (cause : PlanError) : Type 0 where
  pub stands : Stands harts text cause
  pub least : (other : PlanError) → plan_number other < plan_number cause → Stands harts text other → ⊥

-- the least cause in the numbers of a plan, where there is one
abbrev pub checked : ℕ → List (List ℕ) → Result (Unit {0}) PlanError
checked harts rows =
    if has_out_of_range rows then Err QuotaOutOfRange
    else (if has_odd_row harts rows then Err RowLength else (if nat_lt 256 (length rows) then Err TooManyRows else Ok tt))
