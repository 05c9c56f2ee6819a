-- The bytes of a number.
use Rattle.std.proofs.Common.{◌≡◌, ℕ, ◌*◌, ◌<◌, ◌≤◌, ◌%◌, ◌^◌, sym, ap, subst, inl, inr, arith}
use Rattle.std.proofs.lemmas.Bool.{cases_lt}
use Rattle.std.proofs.lemmas.Nat.{pow_below}
use Rattle.std.proofs.Math.Nat.{div-eq_of_lt}
use Rattle.pages.specs.Memory.{byte_of}

-- past its eight bytes a number has zeros
pub past_byte : (n k : ℕ) → n < 2 ^ 64 → 8 ≤ k → byte_of n k ≡ 0
past_byte n k h l = ap (λ q. q % 2 ^ 8) (div-eq_of_lt large)
  where
    large : n < 2 ^ (8 * k)
    large = elim (cases_lt 64 (8 * k)) [
      | inl a ↦ let p = pow_below 64 (8 * k) a in omega (arith, p, h)
      | inr b ↦ let e : 8 * k ≡ 64 = omega (arith, b, l) in subst (λ j. n < 2 ^ j) (sym e) h
    ]
