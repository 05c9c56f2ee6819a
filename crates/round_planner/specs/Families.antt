-- The plans of a family: each stands alone, so any plan can be made without those before it.
use Rattle.std.specs.Prelude.{◌≡◌, ℕ, zero, suc, ◌+◌, ◌*◌, ◌/◌, ◌%◌, ◌^◌, ◌≤◌, ◌==◌, if◌then◌else◌, List, [], ◌∷◌, ◌++◌, Ok}
use Rattle.round_planner.specs.Causes.{checked}
use Rattle.round_planner.specs.Quotas.{Planned, planned}
use Rattle.round_planner.specs.declared.family.Family.{Family}
use Rattle.round_planner.specs.Draws.{draw}

-- what plan n draws for a row and a hart; the rows of the plan are counted from 1, and the paces are drawn at 0
abbrev pub drawn : Family → ℕ → ℕ → ℕ → ℕ
drawn f n row hart = draw f.seed ((n * 257 + row) * 64 + hart)

-- the most instructions of a hart in a round, 1, 2, 4, .. or 1024: in even plans each hart has its own, in odd ones all have one
unfoldable pub pace : Family → ℕ → ℕ → ℕ
pace f n hart = 2 ^ (drawn f n 0 (if n % 2 == 0 then hart else 0) % 11)

-- a quota, of 1 to the hart's pace
abbrev pub quota : Family → ℕ → ℕ → ℕ → ℕ
quota f n row hart = 1 + drawn f n row hart % pace f n hart

-- the quotas of the first k harts in a row
abbrev pub quotas : Family → ℕ → ℕ → ℕ → List ℕ
quotas f n row zero = []
quotas f n row (suc k) = quotas f n row k ++ quota f n row k ∷ []

-- the first k rows
abbrev pub plan_rows : Family → ℕ → ℕ → List (List ℕ)
plan_rows f n zero = []
plan_rows f n (suc k) = plan_rows f n k ++ quotas f n (suc k) f.harts ∷ []

-- 1, 4, 16 or 64 rows
abbrev pub row_count : ℕ → ℕ
row_count n = 4 ^ (n / 2 % 4)

-- a budget of 1, 2, 4, .. or 64
abbrev pub serial_budget : ℕ → ℕ
serial_budget n = 2 ^ (n / 8 % 7)

-- plan n
unfoldable pub family_plan : Family → ℕ → Planned
family_plan f n = planned f.harts (plan_rows f n (row_count n)) (serial_budget n)

-- no plan of the family is refused for its numbers
abbrev pub PlansAreAccepted : Type 0
PlansAreAccepted = (f : Family) (n : ℕ) → 1 ≤ f.harts → checked f.harts (family_plan f n).rows ≡ Ok tt
