-- One text alone makes no pair.
use Rattle.std.proofs.Common.{◌≡◌, ◌<◌, List, [], ◌∷◌, Bor, arith, length, map, refl}
use Rattle.clap.specs.Words.{Text}
use Rattle.command_line.specs.Reading.{pairs}

pub no_pairs : (xs : List (Bor Text)) → length xs < 2 → pairs (map (λ s. s.now) xs) ≡ []
no_pairs [] h = refl
no_pairs (x ∷ []) h = refl
no_pairs (x ∷ y ∷ rest) h = let bad : ⊥ = omega (arith, h) in absurd bad
