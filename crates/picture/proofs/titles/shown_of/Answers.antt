use Rattle.std.proofs.Common.{◌≡◌, ℕ, List, length, take, min, ap, sym, ◌∙◌, inl, inr, arith}
use Rattle.std.proofs.lemmas.Bool.{cases_lt}
use Rattle.std.proofs.lemmas.List.{take_all}
use Rattle.picture.proofs.titles.shown_of.Goals as goal

-- as many as there are, and at most n, are the first n
at_most : (xs : List ℕ) (n k : ℕ) → k ≡ min (length xs) n → take k xs ≡ take n xs
at_most xs n k e = elim (cases_lt (length xs) n) [
  | inl l ↦ take_all k xs (omega (arith, e, l)) ∙ sym (take_all n xs (omega (arith, l)))
  | inr g ↦ let same : k ≡ n = omega (arith, e, g) in ap (λ (j : ℕ). take j xs) same
]

pub returns : goal.returns
returns c = at_most c.args.name.now 200 c.min.result c.min.ensures
