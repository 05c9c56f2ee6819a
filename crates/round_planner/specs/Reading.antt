-- Reading a plan byte by byte: how far it is, what each byte does to it, and the rows in the end.
use Rattle.std.specs.Prelude.{◌≡◌, ℕ, ◌+◌, ◌-◌, ◌*◌, ◌==◌, ◌&&◌, min, nat_eq, nat_le, nat_lt, is_none, length, if◌then◌else◌, List, [], ◌∷◌, ◌++◌, Option, Some, None}
use Rattle.host_io.specs.declared.plan_error.PlanError.{PlanError}
use Rattle.host_io.specs.declared.plan_error.PlanError.TheVariants.{NotAPlan, OutOfMemory}

-- the whole rows, the whole numbers of the row that has begun, and the number that has begun
pub record Reading : Type 0 where
  pub rows : List (List ℕ)
  pub row : List ℕ
  pub number : Option ℕ

abbrev pub start : Reading
start = record { rows = []; row = []; number = None }

-- a number with one more digit; every number over 1,000,000 is told as 1,000,001
abbrev pub with_digit : ℕ → ℕ → ℕ
with_digit n d = min (10 * n + d) 1000001

-- the number after a digit: no digit follows a first 0
abbrev pub number_with : Option ℕ → ℕ → Option ℕ
number_with None d = Some d
number_with (Some n) d = if n == 0 then None else Some (with_digit n d)

abbrev pub after_digit : Reading → Option ℕ → Option Reading
after_digit s None = None
after_digit s (Some n) = Some (record s { number = Some n })

abbrev pub after_number : Reading → Option ℕ → Option Reading
after_number s None = None
after_number s (Some n) = Some (record s { row = s.row ++ n ∷ []; number = None })

abbrev pub after_row : Reading → Option ℕ → Option Reading
after_row s None = None
after_row s (Some n) = Some (record { rows = s.rows ++ (s.row ++ n ∷ []) ∷ []; row = []; number = None })

-- the reading after one byte, where there is one
unfoldable pub step : Reading → ℕ → Option Reading
step s b =
    if nat_le 48 b && nat_lt b 58 then after_digit s (number_with s.number (b - 48))
    else (if b == 32 then after_number s s.number else (if b == 10 then after_row s s.number else None))

-- the rows, where a plan may end here
abbrev pub some_rows : List (List ℕ) → Option (List (List ℕ))
some_rows [] = None
some_rows (r ∷ rs) = Some (r ∷ rs)

abbrev pub rows_at_end : Reading → Option (List (List ℕ))
rows_at_end s = if is_none s.number && nat_eq (length s.row) 0 then some_rows s.rows else None

-- the rows of what is left of a text, after a reading so far
abbrev pub read_on : Option Reading → (Reading → Option (List (List ℕ))) → Option (List (List ℕ))
read_on None f = None
read_on (Some s) f = f s

abbrev pub read_from : Reading → List ℕ → Option (List (List ℕ))
read_from s [] = rows_at_end s
read_from s (b ∷ bs) = read_on (step s b) (λ t. read_from t bs)

-- what a reader may answer where there is nothing to read on
abbrev pub Refuses : {X : Type 0} → PlanError → Option X → Type 0
Refuses NotAPlan r = r ≡ None
Refuses OutOfMemory r = Unit {0}
Refuses _ r = ⊥
