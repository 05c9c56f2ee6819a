-- The text of a plan: its numbers in decimal, in the plan's own grammar.
use Rattle.std.specs.Prelude.{◌≡◌, ℕ, List, [], ◌∷◌, ◌++◌, map}
use Rattle.std.specs.Fmt.{decimal}
use Rattle.std.specs.List.{flat_map}
use Rattle.round_planner.specs.Grammar.{IsPlanText, numbers_of, row_text}
use Rattle.round_planner.specs.Quotas.{IsPlan, Planned}

-- the numbers of the rows, as they are written
abbrev pub numerals_of : List (List ℕ) → List (List (List ℕ))
numerals_of rows = map (map decimal) rows

-- the rows as a text
abbrev pub plan_text : List (List ℕ) → List ℕ
plan_text rows = flat_map row_text (numerals_of rows)

-- what follows a number of a row: the numbers after it, and the end of the row
abbrev pub rest_text : List ℕ → List ℕ
rest_text [] = 10 ∷ []
rest_text (n ∷ ns) = 32 ∷ decimal n ++ rest_text ns

-- the text is a plan's, and its numbers are these rows
abbrev pub ReadsAs : List ℕ → List (List ℕ) → Type 0
ReadsAs text rows = (numerals : List (List (List ℕ))) × IsPlanText text numerals × (rows ≡ numbers_of numerals)

-- the text of a plan reads as its rows, and as no others
abbrev pub TextIsThePlans : Type 0
TextIsThePlans = (p : Planned) → IsPlan p → ReadsAs (plan_text p.rows) p.rows × ((rows : List (List ℕ)) → ReadsAs (plan_text p.rows) rows → rows ≡ p.rows)
