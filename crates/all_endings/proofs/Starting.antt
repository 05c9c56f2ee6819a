-- A run begins where its hart does.
use Rattle.std.proofs.Common.{◌≡◌, ℕ, zero, suc, ◌==◌, Bool, true, false, if◌then◌else◌, List, [], ◌∷◌, map, get_or, Some, None, unwrap_or, refl, ap}
use Rattle.all_endings.specs.Factorizing.{RunsStartThere}

known_number : (x : List ℕ) (r n : ℕ) → get_or (map (λ v. Some v) x) r None ≡ Some n → get_or x r 0 ≡ n
known_number [] r n e = absurd (cc)
known_number (v ∷ x) zero n e = ap (λ o. unwrap_or o 0) e
known_number (v ∷ x) (suc r) n e = known_number x r n e

pub runs_start : RunsStartThere
runs_start k = record { pc = refl; registers = λ r n e. by_test (r == 0) r n e }
  where
    by_test : (b : Bool) (r n : ℕ) → (if b then Some 0 else get_or (map (λ v. Some v) k.x) r None) ≡ Some n → (if b then 0 else get_or k.x r 0) ≡ n
    by_test true r n e = ap (λ o. unwrap_or o 0) e
    by_test false r n e = known_number k.x r n e
