-- Rounds up to the next one.
use Rattle.std.proofs.Common.{◌≡◌, inl, inr, ℕ, ◌+◌, ◌<◌, arith, subst}
use Rattle.std.proofs.lemmas.Bool.{cases_lt}

-- what holds below a number, and of it, holds below the next
pub below_next : (P : ℕ → Type 0) (n : ℕ) → ((k : ℕ) → k < n → P k) → P n → (k : ℕ) → k < n + 1 → P k
below_next P n early last k l = elim (cases_lt k n) [
  | inl a ↦ early k a
  | inr b ↦ let e : n ≡ k = omega (arith, l, b) in subst P e last
]
