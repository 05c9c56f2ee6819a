-- How many numbers fail for want of some fences.
use Rattle.std.specs.Prelude.{ℕ, List}
use Rattle.std.specs.List.{sum_by}
use Rattle.fence_search.specs.declared.gathering.Weakness.{Weakness}

abbrev pub plans_of : List Weakness → ℕ
plans_of ws = sum_by (λ (w : Weakness). w.numbers.plans) ws
