-- The endings that workers found.
use Rattle.std.specs.Prelude.{◌≡◌, ℕ, ◌+◌, List, Option, Some, None, slice_index_or}
use Rattle.plan_hunt.specs.Endings.{Ended}

-- what is in a slot is the ending of the plan at its index, the plans counted from first on
abbrev pub AreSlots : (ℕ → Ended) → ℕ → List (Option Ended) → Type 0
AreSlots ends first slots = (k : ℕ) (e : Ended) → slice_index_or slots k None ≡ Some e → e ≡ ends (first + k)
