-- Numbers of some bytes.
use Rattle.std.proofs.Common.{◌≡◌, ℕ, suc, ◌+◌, ◌*◌, ◌^◌, ◌<◌, ◌≤◌, Option, IfSome, sym, ap, ◌∙◌, subst, arith}
use Rattle.std.proofs.Math.Pow.{pow-add}
use Rattle.all_endings.specs.RunStates.{RunState}
use Rattle.private_bytes.specs.PrivateMoves.{joined, own_byte, own_number}

-- one byte more
pub own_more : (opening : ℕ → ℕ) (a : RunState) (address x n k : ℕ) (o rest : Option ℕ) → k ≡ n + 1 → x ≡ address + 1 → own_byte opening a address ≡ o → rest ≡ own_number opening a x n →
    joined o rest ≡ own_number opening a address k
own_more opening a address x n k o rest s next first more =
    subst (λ (j : ℕ). joined o rest ≡ own_number opening a address j) (sym more_by)
    (ap (λ (p : Option ℕ). joined p rest) (sym first) ∙ ap (joined (own_byte opening a address)) (more ∙ ap (λ (y : ℕ). own_number opening a y n) next))
  where
    more_by : k ≡ suc n
    more_by = omega (arith, s)

pub more_bits : (k : ℕ) (o : Option ℕ) → IfSome o (λ n. n < 2 ^ 8 * 2 ^ (8 * k)) → IfSome o (λ n. n < 2 ^ (8 * (k + 1)))
more_bits k o l = subst (λ (b : ℕ). IfSome o (λ n. n < b)) (sym (ap (λ (e : ℕ). 2 ^ e) more_by ∙ pow-add 2 8 (8 * k))) l
  where
    more_by : 8 * (k + 1) ≡ 8 + 8 * k
    more_by = omega arith
