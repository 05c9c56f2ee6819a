-- What is kept of each hart.
use Rattle.std.proofs.Common.{◌≡◌, ℕ, zero, suc, get_or, replicate, refl}

-- at first all have the same
pub alike_at_first : {A : Type 0} (n h : ℕ) (a : A) → get_or (replicate n a) h a ≡ a
alike_at_first zero h a = refl
alike_at_first (suc n) zero a = refl
alike_at_first (suc n) (suc h) a = alike_at_first n h a
