-- The text of a plan, as a grammar: which bytes are a plan, and what its numbers are.
use Rattle.std.specs.Prelude.{◌≡◌, ℕ, ◌+◌, ◌-◌, ◌*◌, ◌<◌, ◌≤◌, List, [], ◌∷◌, ◌++◌, length, map}
use Rattle.std.specs.List.{flat_map, AllByRecursion}

-- the byte of a decimal digit, `0` to `9`
abbrev pub IsDigit : ℕ → Type 0
IsDigit b = (48 ≤ b) × (b < 58)

-- a number as it is written: `0`, or decimal digits of which the first is not 0, of any length
abbrev pub IsNumeral : List ℕ → Type 0
IsNumeral [] = ⊥
IsNumeral (d ∷ ds) = IsDigit d × AllByRecursion IsDigit ds × (d ≡ 48 → ds ≡ [])

-- the number that decimal digits write after those of n
abbrev pub value_from : ℕ → List ℕ → ℕ
value_from n [] = n
value_from n (d ∷ ds) = value_from (10 * n + (d - 48)) ds

abbrev pub value_of : List ℕ → ℕ
value_of ds = value_from 0 ds

-- the text of a row: its numbers, one space between, then LF
abbrev pub row_text : List (List ℕ) → List ℕ
row_text [] = 10 ∷ []
row_text (n ∷ []) = n ++ 10 ∷ []
row_text (n ∷ m ∷ ns) = n ++ 32 ∷ row_text (m ∷ ns)

-- one or more numbers
pub record IsRow (row : List (List ℕ)) : Type 0 where
  pub some : 0 < length row
  pub numerals : AllByRecursion IsNumeral row

-- the text is these rows, one or more
pub record IsPlanText (text : List ℕ) (rows : List (List (List ℕ))) : Type 0 where
  pub whole : text ≡ flat_map row_text rows
  pub some : 0 < length rows
  pub each : AllByRecursion IsRow rows

-- the numbers of the rows
abbrev pub numbers_of : List (List (List ℕ)) → List (List ℕ)
numbers_of rows = map (map value_of) rows

-- no text has two readings
abbrev pub ReadingIsUnique : Type 0
ReadingIsUnique = (text : List ℕ) (rows others : List (List (List ℕ))) → IsPlanText text rows → IsPlanText text others → rows ≡ others
