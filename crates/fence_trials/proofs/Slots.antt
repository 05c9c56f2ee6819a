-- What was tried, in the slots of its numbers.
use Rattle.std.proofs.Common.{◌≡◌, ℕ, zero, suc, ◌<◌, List, [], ◌∷◌, length, get_or, All, IfSome, Option, Some, None, refl, ◌∙◌, arith}

any_default : {X : Type 0} (xs : List X) (k : ℕ) (d e : X) → k < length xs → get_or xs k d ≡ get_or xs k e
any_default [] k d e l = absurd (omega (arith, l))
any_default (x ∷ xs) zero d e l = refl
any_default (x ∷ xs) (suc k) d e l = any_default xs k d e (omega (arith, l))

slot_so : {X : Type 0} (P : X → Type 0) (slots : List (Option X)) → ((k : ℕ) (x : X) → get_or slots k None ≡ Some x → P x) →
    (k : ℕ) (d : Option X) → k < length slots → (s : Option X) → get_or slots k d ≡ s → IfSome s P
slot_so P slots made k d l None is = tt
slot_so P slots made k d l (Some x) is = made k x (any_default slots k None d l ∙ is)

-- what holds of each that is in a slot holds of all slots
pub in_slots : {X : Type 0} (P : X → Type 0) (slots : List (Option X)) → ((k : ℕ) (x : X) → get_or slots k None ≡ Some x → P x) → All (λ s. IfSome s P) slots
in_slots P slots made k d l = slot_so P slots made k d l (get_or slots k d) refl
