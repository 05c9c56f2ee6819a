-- What is so of each place before one, and of this one.
use Rattle.std.proofs.Common.{◌≡◌, ℕ, ◌+◌, ◌<◌, List, length, get_or, ap, ◌∙◌, subst, inl, inr, arith}
use Rattle.std.proofs.lemmas.Bool.{cases_lt}
use Rattle.std.proofs.lemmas.List.{get_or_read}

pub place_more : (F : ℕ → Type 0) (i : ℕ) → F i → ((k : ℕ) → k < i → F k) → (k : ℕ) → k < i + 1 → F k
place_more F i here before k small = elim (cases_lt k i) [
  | inl less ↦ before k less
  | inr more ↦ subst F (let same : i ≡ k = omega (arith, small, more) in same) here
]

-- the same of the elements of a list
pub element_more : {X : Type 0} (F : X → Type 0) (xs : List X) (i : ℕ) (x : X) → i < length xs → x ≡ get_or xs i x → F x →
    ((k : ℕ) (d : X) → k < i → F (get_or xs k d)) → (k : ℕ) (d : X) → k < i + 1 → F (get_or xs k d)
element_more F xs i x inside at here before k d small = elim (cases_lt k i) [
  | inl less ↦ before k d less
  | inr more ↦
      let same : i ≡ k = omega (arith, small, more) in
      subst F (get_or_read xs i x inside at d ∙ ap (λ (j : ℕ). get_or xs j d) same) here
]
