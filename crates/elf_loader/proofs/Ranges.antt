-- An address is code where one of the ranges has it.
use Rattle.std.proofs.Common.{◌≡◌, ℕ, ◌||◌, Bool, List, [], ◌∷◌, refl, ap}
use Rattle.std.specs.List.{list_any}
use Rattle.pages.specs.Memory.{in_range, is_code}
use Rattle.pages.specs.declared.access.Range.{Range}

pub code_by_range : (rs : List Range) (x : ℕ) → list_any (λ r. in_range r.start r.len x) rs ≡ is_code rs x
code_by_range [] x = refl
code_by_range (r ∷ rs) x = ap (λ (b : Bool). in_range r.start r.len x || b) (code_by_range rs x)
