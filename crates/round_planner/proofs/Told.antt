-- Readings by the numerals that were read, and what a step does to them.
use Rattle.std.proofs.Common.{◌≡◌, ℕ, ◌+◌, ◌-◌, ◌*◌, ◌<◌, ◌≤◌, min, nat_le, nat_lt, Bool, true, false, ◌&&◌, ◌==◌, List, [], ◌∷◌, ◌++◌, length, map, Option, Some, None, refl, sym, ◌∙◌, ap, arith}
use Rattle.std.proofs.lemmas.Bool.Decides.{nat_tests}
use Rattle.std.proofs.lemmas.List.{map-append}
use Rattle.std.specs.List.{flat_map, AllByRecursion}
use Rattle.round_planner.specs.Grammar.{IsDigit, IsNumeral, IsRow, row_text, value_from, value_of}
use Rattle.round_planner.specs.Reading.{Reading, after_digit, after_number, after_row, number_with, with_digit, step}

-- a number as the reader tells it
abbrev pub told : List ℕ → ℕ
told w = min (value_of w) 1000001

-- the whole rows, the whole numerals of the row that has begun, and the digits of the numeral that has
pub record Told : Type 0 where
  pub rows : List (List (List ℕ))
  pub row : List (List ℕ)
  pub numeral : List ℕ

abbrev pub number_told : List ℕ → Option ℕ
number_told [] = None
number_told (d ∷ ds) = Some (told (d ∷ ds))

abbrev pub image : Told → Reading
image s = record { rows = map (map told) s.rows; row = map told s.row; number = number_told s.numeral }

-- the bytes that were read
abbrev pub spaced : List (List ℕ) → List ℕ
spaced [] = []
spaced (w ∷ ws) = w ++ 32 ∷ spaced ws

abbrev pub consumed : Told → List ℕ
consumed s = flat_map row_text s.rows ++ (spaced s.row ++ s.numeral)

abbrev pub IsBegun : List ℕ → Type 0
IsBegun [] = Unit {0}
IsBegun (d ∷ ds) = IsNumeral (d ∷ ds)

pub record Good (s : Told) : Type 0 where
  pub rows : AllByRecursion IsRow s.rows
  pub row : AllByRecursion IsNumeral s.row
  pub numeral : IsBegun s.numeral

-- ---- values

value_from-push : (n : ℕ) (ds : List ℕ) (d : ℕ) → value_from n (ds ++ d ∷ []) ≡ 10 * value_from n ds + (d - 48)
value_from-push n [] d = refl
value_from-push n (e ∷ ds) d = value_from-push (10 * n + (e - 48)) ds d

value_grows : (n : ℕ) (ds : List ℕ) → n ≤ value_from n ds
value_grows n [] = omega arith
value_grows n (d ∷ ds) = omega (arith, value_grows (10 * n + (d - 48)) ds)

capped : (m n d k : ℕ) → k ≡ 10 * n + d → m ≡ min n 1000001 → min (10 * m + d) 1000001 ≡ min k 1000001
capped m n d k e f = omega arith

told-push : (w : List ℕ) (d : ℕ) → with_digit (told w) (d - 48) ≡ told (w ++ d ∷ [])
told-push w d = capped (told w) (value_of w) (d - 48) (value_of (w ++ d ∷ [])) (value_from-push 0 w d) refl

first_told : (d : ℕ) → IsDigit d → d - 48 ≡ told (d ∷ [])
first_told d h = omega (arith, h.0, h.1)

-- ---- steps

-- a digit may follow
abbrev pub TakesDigit : List ℕ → Type 0
TakesDigit [] = Unit {0}
TakesDigit (d ∷ ds) = 48 < d

pub digit_test : (b : ℕ) → IsDigit b → (nat_le 48 b && nat_lt b 58) ≡ true
digit_test b h = grind (arith, nat_tests, h.0, h.1)

digit_step : (s : Reading) (b : ℕ) → IsDigit b → step s b ≡ after_digit s (number_with s.number (b - 48))
unfolding step
digit_step s b h = rw (digit_test b h) refl

space_step : (s : Reading) → step s 32 ≡ after_number s s.number
unfolding step
space_step s = refl

line_step : (s : Reading) → step s 10 ≡ after_row s s.number
unfolding step
line_step s = refl

pub digit_tested : (b : ℕ) → (nat_le 48 b && nat_lt b 58) ≡ true → IsDigit b
digit_tested b e = grind (arith, nat_tests)

other_test : (b : ℕ) (t : Bool) → (IsDigit b → ⊥) → (nat_le 48 b && nat_lt b 58) ≡ t → (nat_le 48 b && nat_lt b 58) ≡ false
other_test b true h e = absurd (h (digit_tested b e))
other_test b false h e = e

pub other_step : (s : Reading) (b : ℕ) → (IsDigit b → ⊥) → (b ≡ 32 → ⊥) → (b ≡ 10 → ⊥) → step s b ≡ None
unfolding step
other_step s b h n m = rw (other_test b (nat_le 48 b && nat_lt b 58) h refl, eqb-ne b 32 n, eqb-ne b 10 m) refl
  where
    eqb-ne : (b c : ℕ) → (b ≡ c → ⊥) → (b == c) ≡ false
    eqb-ne b c n = grind (arith, nat_tests)

number_more : (w : List ℕ) (d : ℕ) → IsDigit d → TakesDigit w → number_with (number_told w) (d - 48) ≡ Some (told (w ++ d ∷ []))
number_more [] d h t = ap (λ (n : ℕ). Some n) (first_told d h)
number_more (e ∷ es) d h t = rw (not_zero (told (e ∷ es)) (large e es t)) (ap (λ (n : ℕ). Some n) (told-push (e ∷ es) d))
  where
    not_zero : (n : ℕ) → 0 < n → (n == 0) ≡ false
    not_zero n h = grind (arith, nat_tests)

    large : (e : ℕ) (es : List ℕ) → 48 < e → 0 < told (e ∷ es)
    large e es t = omega (arith, value_grows (10 * 0 + (e - 48)) es)

pub number_told-push : (w : List ℕ) (d : ℕ) → number_told (w ++ d ∷ []) ≡ Some (told (w ++ d ∷ []))
number_told-push [] d = refl
number_told-push (e ∷ es) d = refl

pub takes_digit : (s : Told) (d : ℕ) → IsDigit d → TakesDigit s.numeral →
    step (image s) d ≡ Some (image (record s { numeral = s.numeral ++ d ∷ [] }))
takes_digit s d h t =
    digit_step (image s) d h ∙ ap (after_digit (image s)) (number_more s.numeral d h t)
    ∙ ap (λ (o : Option ℕ). Some (record (image s) { number = o })) (sym (number_told-push s.numeral d))

pub refuses_digit : (s : Told) (d : ℕ) → IsDigit d → s.numeral ≡ 48 ∷ [] → step (image s) d ≡ None
refuses_digit s d h z =
    digit_step (image s) d h ∙ ap (λ (w : List ℕ). after_digit (image s) (number_with (number_told w) (d - 48))) z

pub takes_space : (rows : List (List (List ℕ))) (row : List (List ℕ)) (w : List ℕ) → 0 < length w →
    step (image (record { rows = rows; row = row; numeral = w })) 32 ≡ Some (image (record { rows = rows; row = row ++ w ∷ []; numeral = [] }))
takes_space rows row [] h = absurd (omega (arith, h))
takes_space rows row (e ∷ es) h =
    space_step (image (record { rows = rows; row = row; numeral = e ∷ es }))
    ∙ ap (λ (r : List ℕ). Some (record { rows = map (map told) rows; row = r; number = None })) (sym (map-append told row ((e ∷ es) ∷ [])))

pub takes_line : (rows : List (List (List ℕ))) (row : List (List ℕ)) (w : List ℕ) → 0 < length w →
    step (image (record { rows = rows; row = row; numeral = w })) 10 ≡ Some (image (record { rows = rows ++ (row ++ w ∷ []) ∷ []; row = []; numeral = [] }))
takes_line rows row [] h = absurd (omega (arith, h))
takes_line rows row (e ∷ es) h =
    line_step (image (record { rows = rows; row = row; numeral = e ∷ es }))
    ∙ ap (λ (r : List ℕ). Some (record { rows = map (map told) rows ++ r ∷ []; row = []; number = None })) (sym (map-append told row ((e ∷ es) ∷ [])))
    ∙ ap (λ (r : List (List ℕ)). Some (record { rows = r; row = []; number = None })) (sym (map-append (map told) rows ((row ++ (e ∷ es) ∷ []) ∷ [])))
