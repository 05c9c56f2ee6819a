-- Bytes of memory, one after another.
use Rattle.std.proofs.Common.{◌≡◌, ℕ, zero, suc, ◌+◌, List, [], ◌∷◌, ◌++◌, ap, ◌∙◌, subst, arith}
use Rattle.all_endings.specs.Endings.{bytes_from}

all_but_last : (m : ℕ → ℕ) (a n : ℕ) → bytes_from m a (suc n) ≡ bytes_from m a n ++ m (a + n) ∷ []
all_but_last m a zero = ap (λ (x : ℕ). m x ∷ []) (let e : a ≡ a + 0 = omega arith in e)
all_but_last m a (suc n) =
    ap (λ (bs : List ℕ). m a ∷ bs) (all_but_last m (a + 1) n ∙ ap (λ (x : ℕ). bytes_from m (a + 1) n ++ m x ∷ []) (let e : a + 1 + n ≡ a + suc n = omega arith in e))

pub bytes_more : (m : ℕ → ℕ) (a n k : ℕ) → k ≡ n + 1 → bytes_from m a k ≡ bytes_from m a n ++ m (a + n) ∷ []
bytes_more m a n k e =
    subst (λ (j : ℕ). bytes_from m a j ≡ bytes_from m a n ++ m (a + n) ∷ []) (let s : suc n ≡ k = omega (arith, e) in s) (all_but_last m a n)
