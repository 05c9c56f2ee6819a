-- How large a plan can be.
use Rattle.std.proofs.Common.{◌≡◌, ℕ, ◌+◌, ◌*◌, ◌≤◌, ◌==◌, ◌||◌, nat_lt, if◌then◌else◌, Bool, true, false, List, [], ◌∷◌, length, Ok, Err, Result, refl, arith}
use Rattle.std.proofs.lemmas.Bool.Decides.{nat_tests}
use Rattle.std.specs.List.{fold, list_any, sum}
use Rattle.round_planner.specs.Causes.{checked}
use Rattle.round_planner.specs.Rows.{has_odd_row, has_out_of_range, is_odd_row, is_out_of_range}
use Rattle.host_io.specs.declared.plan_error.PlanError.{PlanError}
use Rattle.host_io.specs.declared.plan_error.PlanError.TheVariants.{QuotaOutOfRange, RowLength, TooManyRows}
use Rattle.plan_hunt.specs.Steps.{size}

pub neither : (a b : Bool) → (a || b) ≡ false → (a ≡ false) × (b ≡ false)
neither true b e = cc
neither false b e = (refl, e)

-- ---- what is accepted

pub record IsFine (harts : ℕ) (rows : List (List ℕ)) : Type 0 where
  pub in_range : has_out_of_range rows ≡ false
  pub sized : has_odd_row harts rows ≡ false
  pub few : length rows ≤ 256

fine_by : (harts : ℕ) (rows : List (List ℕ)) (a b c : Bool) → has_out_of_range rows ≡ a → has_odd_row harts rows ≡ b → nat_lt 256 (length rows) ≡ c →
    ◌≡◌ {A = Result (Unit {0}) PlanError} (if a then Err QuotaOutOfRange else (if b then Err RowLength else (if c then Err TooManyRows else Ok tt))) (Ok tt) → IsFine harts rows
fine_by harts rows true b c p q r e = cc
fine_by harts rows false true c p q r e = cc
fine_by harts rows false false true p q r e = cc
fine_by harts rows false false false p q r e = record { in_range = p; sized = q; few = grind (arith, nat_tests) }

pub fine : (harts : ℕ) (rows : List (List ℕ)) → checked harts rows ≡ Ok tt → IsFine harts rows
fine harts rows e = fine_by harts rows (has_out_of_range rows) (has_odd_row harts rows) (nat_lt 256 (length rows)) refl refl refl e

-- ---- sizes

quota_small : (n : ℕ) → is_out_of_range n ≡ false → n ≤ 1000000
quota_small n h = let e : nat_lt 1000000 n ≡ false = (neither (n == 0) (nat_lt 1000000 n) h).1 in grind (arith, nat_tests)

row_from : (a : ℕ) (row : List ℕ) → list_any is_out_of_range row ≡ false → fold ◌+◌ a row ≤ a + 1000000 * length row
row_from a [] h = omega arith
row_from a (n ∷ ns) h =
    let e = neither (is_out_of_range n) (list_any is_out_of_range ns) h in
    omega (arith, quota_small n e.0, row_from (a + n) ns e.1)

row_small : (row : List ℕ) → list_any is_out_of_range row ≡ false → sum row ≤ 1000000 * length row
row_small row h = let l : sum row ≤ 0 + 1000000 * length row = row_from 0 row h in omega arith

row_short : (harts : ℕ) (row : List ℕ) → 1 ≤ harts → is_odd_row harts row ≡ false → length row ≤ harts
row_short harts row some h = grind (arith, nat_tests)

rows_small : (harts : ℕ) (rows : List (List ℕ)) → 1 ≤ harts → harts ≤ 64 → has_out_of_range rows ≡ false → has_odd_row harts rows ≡ false → size rows ≤ 64000001 * length rows
rows_small harts [] some few h o = omega arith
rows_small harts (row ∷ rows) some few h o =
    let e = neither (list_any is_out_of_range row) (has_out_of_range rows) h in
    let f = neither (is_odd_row harts row) (has_odd_row harts rows) o in
    omega (arith, row_small row e.0, row_short harts row some f.0, rows_small harts rows some few e.1 f.1)

pub size_fits : (harts : ℕ) (rows : List (List ℕ)) → 1 ≤ harts → harts ≤ 64 → checked harts rows ≡ Ok tt → size rows ≤ 64000001 * 256
size_fits harts rows some few e =
    let f : IsFine harts rows = fine harts rows e in
    omega (arith, f.few, rows_small harts rows some few f.in_range f.sized)
