-- One hart more is walked.
use Rattle.std.proofs.Common.{◌≡◌, ℕ, ◌+◌, ◌<◌, Bool, List, [], ◌∷◌, ◌++◌, length, map, get_or, sym, subst, inl, inr, arith}
use Rattle.std.proofs.lemmas.Bool.{cases_lt}
use Rattle.pages.specs.Memory.{Memory}
use Rattle.all_endings.specs.StoreLists.{Stored}
use Rattle.all_endings.specs.Walking.{HartEnding}
use Rattle.list_suffixes.specs.Serving.{Node}
use Rattle.ending_nodes.proofs.Told.{told_before, told_last}
use Rattle.all_checker.specs.Nodes.{HasWalkFrom}

-- what is told of lists of stores and of ends, hart by hart
module _ {S E : Type 0} (stores : S → List Stored) (ends : E → List HartEnding) (owns : ℕ → ℕ → Bool) (k : ℕ) (image : Memory) (harts : ℕ) (n : Node) where
  abbrev pub AreWalkedTo : ℕ → List S → List E → Type 0
  AreWalkedTo j ss es = (h : ℕ) → h < j → HasWalkFrom owns k image harts h n (get_or (map stores ss) h []) (get_or (map ends es) h [])

  walk_as : (h : ℕ) (o p : List Stored) (w u : List HartEnding) → p ≡ o → u ≡ w → HasWalkFrom owns k image harts h n o w → HasWalkFrom owns k image harts h n p u
  walk_as h o p w u e f walk =
      subst (λ (x : List Stored). HasWalkFrom owns k image harts h n x u) (sym e) (subst (λ (y : List HartEnding). HasWalkFrom owns k image harts h n o y) (sym f) walk)

  pub one_walked : (j : ℕ) (ss ts : List S) (es fs : List E) (s : S) (e : E) → length ss ≡ j → length es ≡ j → ts ≡ ss ++ s ∷ [] → fs ≡ es ++ e ∷ [] →
      HasWalkFrom owns k image harts j n (stores s) (ends e) → AreWalkedTo j ss es →
      (h : ℕ) → h < j + 1 → HasWalkFrom owns k image harts h n (get_or (map stores ts) h []) (get_or (map ends fs) h [])
  one_walked j ss ts es fs s e many many2 grown grown2 walk before h l = elim (cases_lt h j) [
    | inl small ↦
        walk_as h (get_or (map stores ss) h []) (get_or (map stores ts) h []) (get_or (map ends es) h []) (get_or (map ends fs) h [])
        (told_before stores ss ts s h [] grown (omega (arith, small, many))) (told_before ends es fs e h [] grown2 (omega (arith, small, many2))) (before h small)
    | inr large ↦
        let same : j ≡ h = omega (arith, l, large) in
        walk_as h (stores s) (get_or (map stores ts) h []) (ends e) (get_or (map ends fs) h [])
        (told_last stores ss ts s h [] grown (omega (arith, same, many))) (told_last ends es fs e h [] grown2 (omega (arith, same, many2)))
        (subst (λ (i : ℕ). HasWalkFrom owns k image harts i n (stores s) (ends e)) same walk)
  ]
