-- The rows of a family's plans: how many there are, how long they are, and that their quotas are in range.
use Rattle.std.proofs.Common.{◌≡◌, ℕ, zero, suc, ◌+◌, ◌/◌, ◌%◌, ◌^◌, ◌<◌, ◌≤◌, ◌==◌, ◌&&◌, not, nat_lt, if◌then◌else◌, Bool, false, List, [], ◌∷◌, ◌++◌, length, Ok, Err, Result, refl, ◌∙◌, ap, arith, add-one}
use Rattle.std.proofs.Math.Nat.{one-le-pow, pow-le-pow_right}
use Rattle.std.proofs.lemmas.Bool.Decides.{nat_tests}
use Rattle.std.proofs.lemmas.List.{length-append}
use Rattle.std.proofs.lemmas.List.Folds.{list_any-append}
use Rattle.std.specs.List.{list_any}
use Rattle.round_planner.specs.Causes.{checked}
use Rattle.round_planner.specs.Quotas.{planned}
use Rattle.round_planner.specs.Rows.{has_odd_row, has_out_of_range, is_odd_row, is_out_of_range}
use Rattle.host_io.specs.declared.plan_error.PlanError.{PlanError}
use Rattle.host_io.specs.declared.plan_error.PlanError.TheVariants.{QuotaOutOfRange, RowLength, TooManyRows}
use Rattle.round_planner.specs.declared.family.Family.{Family}
use Rattle.round_planner.specs.Families.{PlansAreAccepted, drawn, family_plan, pace, plan_rows, quota, quotas, row_count, serial_budget}

-- ---- powers

power_of_2 : (k : ℕ) → k ≤ 10 → (1 ≤ 2 ^ k) × (2 ^ k ≤ 1024)
power_of_2 k h = (one-le-pow k 2 (omega arith), pow-le-pow_right {n = 2} (omega arith) {i = k} {j = 10} h)

power_of_4 : (k : ℕ) → k ≤ 3 → (1 ≤ 4 ^ k) × (4 ^ k ≤ 64)
power_of_4 k h = (one-le-pow k 4 (omega arith), pow-le-pow_right {n = 4} (omega arith) {i = k} {j = 3} h)

pub few_rows : (n : ℕ) → (1 ≤ row_count n) × (row_count n ≤ 64)
few_rows n = power_of_4 (n / 2 % 4) (omega arith)

pace_small : (f : Family) (n hart : ℕ) → (1 ≤ pace f n hart) × (pace f n hart ≤ 1024)
unfolding pace
pace_small f n hart = power_of_2 (drawn f n 0 (if n % 2 == 0 then hart else 0) % 11) (omega arith)

-- ---- the checks

in_range : (x p : ℕ) → 1 ≤ p → p ≤ 1024 → is_out_of_range (1 + x % p) ≡ false
in_range x p l h = let lt : x % p < p = omega arith in grind (arith, nat_tests)

quota_in_range : (f : Family) (n row hart : ℕ) → is_out_of_range (quota f n row hart) ≡ false
quota_in_range f n row hart = let p = pace_small f n hart in in_range (drawn f n row hart) (pace f n hart) p.0 p.1

row_in_range : (f : Family) (n row k : ℕ) → list_any is_out_of_range (quotas f n row k) ≡ false
row_in_range f n row zero = refl
row_in_range f n row (suc k) =
    list_any-append is_out_of_range (quotas f n row k) (quota f n row k ∷ [])
    ∙ cc (row_in_range f n row k, quota_in_range f n row k)

rows_in_range : (f : Family) (n k : ℕ) → has_out_of_range (plan_rows f n k) ≡ false
rows_in_range f n zero = refl
rows_in_range f n (suc k) =
    list_any-append (list_any is_out_of_range) (plan_rows f n k) (quotas f n (suc k) f.harts ∷ [])
    ∙ cc (rows_in_range f n k, row_in_range f n (suc k) f.harts)

pub length-quotas : (f : Family) (n row k : ℕ) → length (quotas f n row k) ≡ k
length-quotas f n row zero = refl
length-quotas f n row (suc k) = omega (arith, length-append (quotas f n row k) (quota f n row k ∷ []), length-quotas f n row k)

pub length-plan_rows : (f : Family) (n k : ℕ) → length (plan_rows f n k) ≡ k
length-plan_rows f n zero = refl
length-plan_rows f n (suc k) = omega (arith, length-append (plan_rows f n k) (quotas f n (suc k) f.harts ∷ []), length-plan_rows f n k)

not_odd : (harts l : ℕ) → l ≡ harts → (not (l == 1) && not (l == harts)) ≡ false
not_odd harts l e = grind (arith, nat_tests)

rows_sized : (f : Family) (n k : ℕ) → has_odd_row f.harts (plan_rows f n k) ≡ false
rows_sized f n zero = refl
rows_sized f n (suc k) =
    list_any-append (is_odd_row f.harts) (plan_rows f n k) (quotas f n (suc k) f.harts ∷ [])
    ∙ cc (rows_sized f n k, not_odd f.harts (length (quotas f n (suc k) f.harts)) (length-quotas f n (suc k) f.harts))

not_many : (l : ℕ) → l ≤ 64 → nat_lt 256 l ≡ false
not_many l h = grind (arith, nat_tests)

passes : (a b c : Bool) → a ≡ false → b ≡ false → c ≡ false →
    ◌≡◌ {A = Result (Unit {0}) PlanError} (if a then Err QuotaOutOfRange else (if b then Err RowLength else (if c then Err TooManyRows else Ok tt))) (Ok tt)
passes a b c d e f = rw (d, e, f)

pub rows_pass : (f : Family) (n k : ℕ) → k ≤ 64 → checked f.harts (plan_rows f n k) ≡ Ok tt
rows_pass f n k h =
    passes (has_out_of_range (plan_rows f n k)) (has_odd_row f.harts (plan_rows f n k)) (nat_lt 256 (length (plan_rows f n k)))
    (rows_in_range f n k) (rows_sized f n k) (not_many (length (plan_rows f n k)) (omega (arith, length-plan_rows f n k)))

pub accepted : PlansAreAccepted
unfolding family_plan
accepted = λ f n h. let r = few_rows n in rows_pass f n (row_count n) r.1

-- ---- one more

pub quotas_next : (f : Family) (n row k : ℕ) → quotas f n row (k + 1) ≡ quotas f n row k ++ quota f n row k ∷ []
quotas_next f n row k = rw (add-one k) refl

pub rows_next : (f : Family) (n k : ℕ) → plan_rows f n (k + 1) ≡ plan_rows f n k ++ quotas f n (k + 1) f.harts ∷ []
rows_next f n k = rw (add-one k) refl

pub rows_of_plan : (f : Family) (n count : ℕ) (rows : List (List ℕ)) → rows ≡ plan_rows f n count → count ≡ row_count n → planned f.harts rows (serial_budget n) ≡ family_plan f n
unfolding family_plan
rows_of_plan f n count rows same count_is = ap (λ (r : List (List ℕ)). planned f.harts r (serial_budget n)) (same ∙ ap (plan_rows f n) count_is)
