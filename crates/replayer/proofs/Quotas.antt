-- The quotas of a plan against which nothing speaks.
use Rattle.std.proofs.Common.{◌≡◌, ℕ, zero, suc, ◌<◌, ◌≤◌, ◌%◌, Bool, true, false, List, [], ◌∷◌, length, refl, arith}
use Rattle.std.specs.Prelude.{◌==◌, ◌||◌, if◌then◌else◌, replicate, slice_index, slice_index_or}
use Rattle.std.specs.List.{list_any}
use Rattle.std.proofs.lemmas.Bool.Decides.{nat_tests}
use Rattle.elf_loader.specs.Causes.{IsGood, IsLeast as IsLeastOfImage}
use Rattle.host_io.specs.RunErrors.{image_number, plan_number}
use Rattle.host_io.specs.declared.load_error.LoadError.{LoadError}
use Rattle.round_planner.specs.Causes.{IsLeast, Stands}
use Rattle.round_planner.specs.Grammar.{IsPlanText, numbers_of}
use Rattle.round_planner.specs.Quotas.{Planned, quotas_of}
use Rattle.round_planner.specs.Rows.{has_out_of_range, is_out_of_range}
use Rattle.host_io.specs.declared.plan_error.PlanError.{PlanError}
use Rattle.host_io.specs.declared.plan_error.PlanError.TheVariants.{NotAPlan, QuotaOutOfRange, RowLength, TooManyRows, OutOfMemory}

-- ---- where no cause is the least, none stands

lower : (Faults : LoadError → Type 0) → ((cause : LoadError) → IsLeastOfImage Faults cause → ⊥) → (n : ℕ) (cause : LoadError) → image_number cause < n → Faults cause → ⊥
lower Faults none zero cause lt s = absurd (omega (arith, lt))
lower Faults none (suc n) cause lt s = none cause (record { stands = s; least = λ other l. lower Faults none n other (omega (arith, l, lt)) })

pub is_good : (Faults : LoadError → Type 0) → ((cause : LoadError) → IsLeastOfImage Faults cause → ⊥) → IsGood Faults
is_good Faults none cause = lower Faults none (suc (image_number cause)) cause (omega arith)

least_by : (harts : ℕ) (text : List ℕ) (rows : List (List (List ℕ))) → IsPlanText text rows → (other : PlanError) → plan_number other < 32 → Stands harts text other → ⊥
least_by harts text rows is NotAPlan lt s = s rows is
least_by harts text rows is QuotaOutOfRange lt s = absurd (omega (arith, lt))
least_by harts text rows is RowLength lt s = absurd (omega (arith, lt))
least_by harts text rows is TooManyRows lt s = absurd (omega (arith, lt))
least_by harts text rows is OutOfMemory lt s = s

none_out : (harts : ℕ) (text : List ℕ) (rows : List (List (List ℕ))) (out : Bool) → has_out_of_range (numbers_of rows) ≡ out → IsPlanText text rows → (IsLeast harts text QuotaOutOfRange → ⊥) → has_out_of_range (numbers_of rows) ≡ false
none_out harts text rows false e is none = e
none_out harts text rows true e is none = absurd (none (record { stands = (rows, is, e); least = least_by harts text rows is }))

-- ---- each quota

or_false : (a b : Bool) → (a || b) ≡ false → (a ≡ false) × (b ≡ false)
or_false true b e = absurd cc
or_false false b e = (refl, e)

low_number : (row : List ℕ) (i : ℕ) → list_any is_out_of_range row ≡ false → slice_index row i ≤ 1000000
low_number [] i e = omega arith
low_number (n ∷ row) zero e = let here = (or_false (is_out_of_range n) (list_any is_out_of_range row) e).0 in grind (arith, nat_tests, here)
low_number (n ∷ row) (suc i) e = low_number row i (or_false (is_out_of_range n) (list_any is_out_of_range row) e).1

low_row : (rows : List (List ℕ)) (k : ℕ) → has_out_of_range rows ≡ false → list_any is_out_of_range (slice_index_or rows k []) ≡ false
low_row [] k e = refl
low_row (row ∷ rows) zero e = (or_false (list_any is_out_of_range row) (has_out_of_range rows) e).0
low_row (row ∷ rows) (suc k) e = low_row rows k (or_false (list_any is_out_of_range row) (has_out_of_range rows) e).1

low_copies : (n q i : ℕ) → q ≤ 1000000 → slice_index (replicate n q) i ≤ 1000000
low_copies zero q i l = omega arith
low_copies (suc n) q zero l = l
low_copies (suc n) q (suc i) l = low_copies n q i l

low_spread : (one : Bool) (harts : ℕ) (quotas : List ℕ) (i : ℕ) → list_any is_out_of_range quotas ≡ false → slice_index (if one then replicate harts (slice_index quotas 0) else quotas) i ≤ 1000000
low_spread true harts quotas i e = low_copies harts (slice_index quotas 0) i (low_number quotas 0 e)
low_spread false harts quotas i e = low_number quotas i e

pub low_quotas : (plan : Planned) (harts : ℕ) (text : List ℕ) (rows : List (List (List ℕ))) → plan.rows ≡ numbers_of rows → IsPlanText text rows → (IsLeast harts text QuotaOutOfRange → ⊥) → (n i : ℕ) → slice_index (quotas_of plan n) i ≤ 1000000
low_quotas plan harts text rows same is none n i =
    let clear = none_out harts text rows (has_out_of_range (numbers_of rows)) refl is none in
    let all : has_out_of_range plan.rows ≡ false = rw same clear in
    let row : List ℕ = slice_index_or plan.rows (n % length plan.rows) [] in
    low_spread (length row == 1) plan.harts row i (low_row plan.rows (n % length plan.rows) all)
