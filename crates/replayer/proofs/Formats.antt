-- The format that the number of a recording says.
use Rattle.std.proofs.Common.{◌≡◌, ℕ, false, refl, sym, ap, arith}
use Rattle.std.specs.Prelude.{◌==◌}
use Rattle.std.proofs.lemmas.Bool.Decides.{nat_tests}
use Rattle.round_planner.specs.declared.settings.Format.TheVariants.{Elf, Flat}
use Rattle.replayer.specs.Replayed.{format_of}

pub is_flat : (n : ℕ) → n ≡ 1 → Flat ≡ format_of n
is_flat n e = ap format_of (sym e)

is_other : (n : ℕ) → (n ≡ 1 → ⊥) → (n == 1) ≡ false
is_other n other = grind (arith, nat_tests, other)

pub is_elf : (n : ℕ) → (n ≡ 1 → ⊥) → Elf ≡ format_of n
is_elf n other = rw (is_other n other) refl
