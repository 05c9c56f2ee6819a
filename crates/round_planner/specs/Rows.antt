-- What may be wrong with the numbers of a plan.
use Rattle.std.specs.Prelude.{ℕ, ◌==◌, ◌&&◌, ◌||◌, Bool, nat_lt, List, length, not}
use Rattle.std.specs.List.{list_any}

-- a number that is 0 or over 1,000,000
abbrev pub is_out_of_range : ℕ → Bool
is_out_of_range n = (n == 0) || nat_lt 1000000 n

abbrev pub has_out_of_range : List (List ℕ) → Bool
has_out_of_range rows = list_any (list_any is_out_of_range) rows

-- a row with neither 1 number nor one for each hart
abbrev pub is_odd_row : ℕ → List ℕ → Bool
is_odd_row harts row = not (length row == 1) && not (length row == harts)

abbrev pub has_odd_row : ℕ → List (List ℕ) → Bool
has_odd_row harts rows = list_any (is_odd_row harts) rows
