-- Bytes that are all 0, and what they come to where they are joined.
use Rattle.std.proofs.Common.{◌≡◌, ◌==◌, ℕ, zero, suc, ◌+◌, ◌<◌, Bool, false, ◌&&◌, bit_or, List, length, get_or, take, sym, ap, ◌∙◌, arith}
use Rattle.std.specs.Int.Bits.{or_zero_l}
use Rattle.std.proofs.lemmas.Nat.{le_or_l}
use Rattle.std.proofs.lemmas.Bool.Decides.{nat_tests}
use Rattle.std.proofs.lemmas.List.Folds.{list_all_more}
use Rattle.report_lines.specs.Rows.{all_zero}

some : (n : ℕ) → 0 < n → (n == 0) ≡ false
some n h = grind (arith, nat_tests)

or_none : (a b : ℕ) → (bit_or a b == 0) ≡ ((a == 0) && (b == 0))
or_none zero b = ap (λ (n : ℕ). n == 0) (or_zero_l b)
or_none (suc a) b =
    some (bit_or (suc a) b) (omega (arith, le_or_l (suc a) b)) ∙ sym (ap (λ (z : Bool). z && (b == 0)) (some (suc a) (omega arith)))

-- one byte more
pub zeros_more : (bs : List ℕ) (i joined b : ℕ) → i < length bs → b ≡ get_or bs i 0 → (joined == 0) ≡ all_zero (take i bs) → (bit_or joined b == 0) ≡ all_zero (take (i + 1) bs)
zeros_more bs i joined b l at so =
    or_none joined b ∙ ap (λ (z : Bool). z && (b == 0)) so ∙ ap (λ (n : ℕ). all_zero (take i bs) && (n == 0)) at
    ∙ sym (list_all_more (λ n. n == 0) bs i 0 l)
