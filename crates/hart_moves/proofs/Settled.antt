-- What is kept of a byte is one of the records, or nothing.
use Rattle.std.proofs.Common.{◌≡◌, ℕ, zero, suc, ◌<◌, ◌≤◌, ◌==◌, ◌⊎◌, Bool, if◌then◌else◌, List, [], ◌∷◌, length, get_or, refl, ap, ◌∙◌, subst, inl, inr, arith}
use Rattle.std.proofs.lemmas.Bool.{cases_Bool, eqb-true}
use Rattle.run_bounds.specs.declared.touched.TouchedByte.{TouchedByte}
use Rattle.run_bounds.specs.Touched.{known_at, untouched}

IsKept : List TouchedByte → ℕ → Type 0
IsKept bs x = (known_at bs x ≡ untouched x) ⊎ ((k : ℕ) × (k < length bs) × ((d : TouchedByte) → (get_or bs k d).address ≡ x))

is_kept : (bs : List TouchedByte) (x : ℕ) → IsKept bs x
unfolding IsKept
is_kept [] x = inl refl
is_kept (b ∷ bs) x = elim (cases_Bool (b.address == x)) [
  | inl here ↦ inr (zero, omega arith, λ d. eqb-true b.address x here)
  | inr other ↦ elim (is_kept bs x) [
    | inl none ↦ inl (ap (λ (c : Bool). if c then b else known_at bs x) other ∙ none)
    | inr there ↦ inr (suc there.0, (let l = there.1 in omega (arith, l)), λ d. there.2 d)
  ]
]

-- where each record's byte is touched before a time, each byte is
pub all_before : (bs : List TouchedByte) (n : ℕ) → ((k : ℕ) (d : TouchedByte) → k < length bs → (known_at bs (get_or bs k d).address).touched ≤ n) → (x : ℕ) → (known_at bs x).touched ≤ n
unfolding IsKept
all_before bs n each x = elim (is_kept bs x) [
  | inl none ↦ (let e : (known_at bs x).touched ≡ 0 = ap (λ (b : TouchedByte). b.touched) none in omega (arith, e))
  | inr there ↦ subst (λ (y : ℕ). (known_at bs y).touched ≤ n) (there.2 (untouched x)) (each there.0 (untouched x) there.1)
]
