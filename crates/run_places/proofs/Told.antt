-- Lists of numbers of which some are known, one by one.
use Rattle.std.proofs.Common.{◌≡◌, ℕ, zero, suc, ◌+◌, ◌<◌, ◌≤◌, ◌==◌, Bool, true, false, if◌then◌else◌, List, [], ◌∷◌, length, get_or, Option, None, Some, sym, ap, ◌∙◌, inl, inr, arith}
use Rattle.std.proofs.lemmas.Bool.{cases_lt}
use Rattle.std.proofs.lemmas.List.{get_or_past, get_or_read}
use Rattle.private_bytes.specs.Ahead.{OutputTells, Tells, TellsAll, tells-more, tells-nothing}

none_is_none : (n : ℕ) → None ≡ Some n → ⊥
none_is_none n e = cc

-- one number more
pub told_more : (xs ys : List (Option ℕ)) (i : ℕ) (x y : Option ℕ) → i < length xs → i < length ys → x ≡ get_or xs i x → y ≡ get_or ys i y → Tells x y →
    ((k n : ℕ) → k < i → get_or xs k None ≡ Some n → get_or ys k None ≡ Some n) → (k n : ℕ) → k < i + 1 → get_or xs k None ≡ Some n → get_or ys k None ≡ Some n
told_more xs ys i x y l m at bt here before k n small e = elim (cases_lt k i) [
  | inl early ↦ before k n early e
  | inr late ↦
      let same : i ≡ k = omega (arith, small, late) in
      let left : x ≡ get_or xs k None = get_or_read xs i x l at None ∙ ap (λ (j : ℕ). get_or xs j None) same in
      let right : y ≡ get_or ys k None = get_or_read ys i y m bt None ∙ ap (λ (j : ℕ). get_or ys j None) same in
      sym right ∙ here n (left ∙ e)
]

by_zero : (b : Bool) (x y : Option ℕ) (n : ℕ) → (x ≡ Some n → y ≡ Some n) → (if b then Some 0 else x) ≡ Some n → (if b then Some 0 else y) ≡ Some n
by_zero true x y n f e = e
by_zero false x y n f e = f e

-- all registers are told, if those are that there are
pub all_told : (xs ys : List (Option ℕ)) (i : ℕ) → length xs ≤ i → ((k n : ℕ) → k < i → get_or xs k None ≡ Some n → get_or ys k None ≡ Some n) → TellsAll xs ys
all_told xs ys i l each r n = by_zero (r == 0) (get_or xs r None) (get_or ys r None) n (λ e. elim (cases_lt r i) [
  | inl small ↦ each r n small e
  | inr large ↦ absurd (none_is_none n (sym (get_or_past xs r None (omega (arith, l, large))) ∙ e))
])

-- so is all that was put out
pub output_told : (xs ys : List (Option ℕ)) → length xs ≡ length ys → ((k n : ℕ) → k < length xs → get_or xs k None ≡ Some n → get_or ys k None ≡ Some n) → OutputTells xs ys
output_told [] [] l each = tells-nothing
output_told [] (y ∷ ys) l each = absurd (omega (arith, l))
output_told (x ∷ xs) [] l each = absurd (omega (arith, l))
output_told (x ∷ xs) (y ∷ ys) l each =
    tells-more x y xs ys (λ n e. each zero n (omega arith) e) (output_told xs ys (omega (arith, l)) (λ k n m e. each (suc k) n (omega (arith, m)) e))
