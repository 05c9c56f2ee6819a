-- Times and places that are counted by the stores that stay.
use Rattle.std.proofs.Common.{◌≡◌, ℕ, zero, suc, ◌<◌, ◌≤◌, nat_le, Bool, true, false, List, [], ◌∷◌, length, refl, ap, ◌∙◌, inl, inr, arith}
use Rattle.std.proofs.lemmas.Bool.{cases_lt, cond-false, cond-true, le-leb, lt-leb}
use Rattle.all_endings.specs.StoreLists.{Stored}
use Rattle.list_suffixes.specs.Staying.{kept_before, last_laid, place_before, place_kept, stays_at}

pub kept_zero : (stays : List Bool) → kept_before stays 0 ≡ 0
kept_zero [] = refl
kept_zero (b ∷ stays) = refl

-- one more where it stays
pub kept_more : (stays : List Bool) (k : ℕ) → stays_at stays k ≡ true → kept_before stays (suc k) ≡ suc (kept_before stays k)
kept_more [] k e = refl
kept_more (true ∷ stays) zero e = ap suc (kept_zero stays)
kept_more (true ∷ stays) (suc k) e = ap suc (kept_more stays k e)
kept_more (false ∷ stays) zero e = absurd (cc)
kept_more (false ∷ stays) (suc k) e = kept_more stays k e

pub kept_same : (stays : List Bool) (k : ℕ) → stays_at stays k ≡ false → kept_before stays (suc k) ≡ kept_before stays k
kept_same [] k e = absurd (cc)
kept_same (true ∷ stays) zero e = absurd (cc)
kept_same (true ∷ stays) (suc k) e = ap suc (kept_same stays k e)
kept_same (false ∷ stays) zero e = kept_zero stays
kept_same (false ∷ stays) (suc k) e = kept_same stays k e

-- where one stood
pub before_stays : (stays : List Bool) (j : ℕ) → stays_at stays (place_before stays j) ≡ true
before_stays [] j = refl
before_stays (true ∷ stays) zero = refl
before_stays (true ∷ stays) (suc j) = before_stays stays j
before_stays (false ∷ stays) j = before_stays stays j

pub before_kept : (stays : List Bool) (j : ℕ) → kept_before stays (place_before stays j) ≡ j
before_kept [] j = refl
before_kept (true ∷ stays) zero = refl
before_kept (true ∷ stays) (suc j) = ap suc (before_kept stays j)
before_kept (false ∷ stays) j = before_kept stays j

-- places of bytes
module _ (stays : List Bool) (m : List Stored) (x p : ℕ) where
  abbrev last : ℕ
  last = last_laid stays m x (length stays)

  pub place_laid : p ≤ last → place_kept stays m x p ≡ 0
  place_laid l = cond-true (nat_le p last) 0 (kept_before stays p) (le-leb p last l)

  pub place_stays : last < p → place_kept stays m x p ≡ kept_before stays p
  place_stays l = cond-false (nat_le p last) 0 (kept_before stays p) (lt-leb p last l)

  pub place_below : place_kept stays m x p ≤ kept_before stays p
  place_below = elim (cases_lt last p) [
    | inr early ↦ let z = place_laid early in omega (arith, z)
    | inl late ↦ let e = place_stays late in omega (arith, e)
  ]

pub place_zero : (stays : List Bool) (m : List Stored) (x : ℕ) → place_kept stays m x 0 ≡ 0
place_zero stays m x = place_laid stays m x 0 (omega arith)
