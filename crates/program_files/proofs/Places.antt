-- One program header after another, in search of the one by which a file has a byte.
use Rattle.std.proofs.Common.{◌≡◌, ℕ, suc, ◌+◌, false, List, Option, Some, None, is_some, ◌∙◌, ap, refl, sym}
use Rattle.program_files.specs.Spurious.{or_later, place_at, place_from}

none_there : (o : Option ℕ) → is_some o ≡ false → o ≡ None
none_there None e = refl
none_there (Some p) e = cc

-- where the header at an offset doesn't have the byte, a later one has it, if one has
pub header_other : (file : List ℕ) (x at n m : ℕ) (place : Option ℕ) → n ≡ suc m → place ≡ place_at file at x → is_some place ≡ false →
    place_from file x (at + 56) m ≡ place_from file x at n
header_other file x at n m place s is e =
    sym (ap (place_from file x at) s ∙ ap (λ (o : Option ℕ). or_later o (place_from file x (at + 56) m)) (sym is ∙ none_there place e))
