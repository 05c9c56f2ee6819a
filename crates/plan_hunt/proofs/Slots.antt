-- What is taken out of the slots of workers' endings.
use Rattle.std.proofs.Common.{◌≡◌, ℕ, zero, suc, ◌+◌, ◌<◌, List, [], ◌∷◌, length, get_or, Option, Some, None, IfSome, refl, sym, ◌∙◌, arith}
use Rattle.plan_hunt.specs.Endings.{Ended}
use Rattle.plan_hunt.specs.Slots.{AreSlots}

abbrev Slots : Type 0
Slots = List (Option Ended)

-- what is taken out of a slot
pub slot_holds : (ends : ℕ → Ended) (first : ℕ) (slots : Slots) (i : ℕ) (was taken : Option Ended) → AreSlots ends first slots → i < length slots → was ≡ get_or slots i was → taken ≡ was →
    IfSome taken (λ e. e ≡ ends (first + i))
slot_holds ends first slots i was None s l at same = tt
slot_holds ends first slots i was (Some e) s l at same = s i e (any_default slots i None was l ∙ sym at ∙ sym same)
  where
    any_default : (xs : Slots) (j : ℕ) (d f : Option Ended) → j < length xs → get_or xs j d ≡ get_or xs j f
    any_default [] j d f lt = absurd (omega (arith, lt))
    any_default (x ∷ xs) zero d f lt = refl
    any_default (x ∷ xs) (suc j) d f lt = any_default xs j d f (omega (arith, lt))
