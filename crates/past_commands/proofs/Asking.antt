-- What an execution was asked, once it wasn't refused.
use Rattle.std.proofs.Common.{◌≡◌, ◌⊎◌, ◌||◌, Bool, None, Option, Some, arith, false, inl, inr, is_some, refl, true, ℕ}
use Rattle.round_schedule.specs.Bounds.{AreNoWorkers, AreWorkers}

pub none_of : {X : Type 0} (o : Option X) → is_some o ≡ false → o ≡ None
none_of None e = refl
none_of (Some x) e = absurd cc

pub clash : (b : Bool) → b ≡ false → b ≡ true → ⊥
clash b is_false is_true = absurd cc

pub no_workers : (n : ℕ) → AreWorkers n → AreNoWorkers n → ⊥
no_workers n good (inl lt) = omega (arith, good.0, lt)
no_workers n good (inr lt) = omega (arith, good.1, lt)

pub neither : {X Y : Type 0} (o : Option X) (p : Option Y) → o ≡ None → p ≡ None → (is_some o || is_some p) ≡ false
neither None None e f = refl
neither None (Some y) e f = absurd cc
neither (Some x) p e f = absurd cc
