-- A guest before the first round.
use Rattle.std.proofs.Common.{◌≡◌, ℕ, zero, suc, length, refl, ap}
use Rattle.guest_rounds.specs.Opening.{opening_harts}

pub length-opening : (e n i k : ℕ) → length (opening_harts e n i k) ≡ k
length-opening e n i zero = refl
length-opening e n i (suc k) = ap suc (length-opening e n (suc i) k)
