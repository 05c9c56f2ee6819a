-- The text of a plan is one in the plan's grammar, whose numbers are the plan's.
use Rattle.std.proofs.Common.{◌≡◌, ℕ, zero, suc, get_or, ◌-◌, ◌^◌, ◌<◌, ◌≤◌, ◌||◌, Bool, true, false, List, [], ◌∷◌, ◌++◌, length, map, refl, sym, ◌∙◌, ap, subst, arith, rules, take, drop}
use Rattle.std.proofs.lemmas.Grind.{common_steps}
use Rattle.std.proofs.lemmas.Bool.Decides.{nat_tests}
use Rattle.std.proofs.lemmas.Fmt.{decimal_digit, digits_decimal, digits_value-decimal, first_decimal}
use Rattle.std.proofs.lemmas.List.{length-map}
use Rattle.std.proofs.lemmas.Str.Parse.{IsNumeralModel, numerals_by_fold}
use Rattle.std.specs.Fmt.{decimal}
use Rattle.std.specs.List.{AllByRecursion, list_any}
use Rattle.round_planner.specs.Grammar.{IsDigit, IsNumeral, IsRow, numbers_of, row_text, value_from, value_of}
use Rattle.round_planner.specs.PlanText.{ReadsAs, TextIsThePlans, numerals_of, plan_text, rest_text}
use Rattle.round_planner.specs.Quotas.{IsPlan, Planned}
use Rattle.round_planner.specs.Rows.{has_odd_row, has_out_of_range, is_odd_row, is_out_of_range}
use Rattle.round_planner.proofs.Unique.{unique}

-- ---- one number

own : IsNumeralModel (AllByRecursion IsDigit) value_of
own = numerals_by_fold _ (search rules) value_from (search rules)

pub value_of-decimal : (n : ℕ) → n < 2 ^ 64 → value_of (decimal n) ≡ n
value_of-decimal n h = digits_value-decimal own n h

no_zero_first : (ds : List ℕ) → AllByRecursion IsDigit ds → 48 < get_or ds 0 0 → IsNumeral ds
no_zero_first [] h l = omega (arith, l)
no_zero_first (d ∷ ds) h l = (h.0, h.1, λ e. absurd (omega (arith, l, e)))

pub is_numeral : (n : ℕ) → n < 2 ^ 64 → IsNumeral (decimal n)
is_numeral zero h = subst IsNumeral (sym (decimal_digit 0 (omega arith))) ((omega arith, omega arith), tt, λ e. refl)
is_numeral (suc n) h = no_zero_first (decimal (suc n)) (digits_decimal own (suc n) h) (first_decimal (suc n) (omega arith) h)

-- ---- rows

either_false : (a b : Bool) → (a || b) ≡ false → (a ≡ false) × (b ≡ false)
either_false true b h = (cc, cc)
either_false false b h = (refl, h)

small : (n : ℕ) → is_out_of_range n ≡ false → n < 2 ^ 64
small n h = grind (arith, nat_tests)

numerals : (ns : List ℕ) → list_any is_out_of_range ns ≡ false → AllByRecursion IsNumeral (map decimal ns)
numerals [] h = tt
numerals (n ∷ ns) h =
    let e : (is_out_of_range n ≡ false) × (list_any is_out_of_range ns ≡ false) = either_false (is_out_of_range n) (list_any is_out_of_range ns) h in
    (is_numeral n (small n e.0), numerals ns e.1)

values : (ns : List ℕ) → list_any is_out_of_range ns ≡ false → map value_of (map decimal ns) ≡ ns
values [] h = refl
values (n ∷ ns) h =
    let e : (is_out_of_range n ≡ false) × (list_any is_out_of_range ns ≡ false) = either_false (is_out_of_range n) (list_any is_out_of_range ns) h in
    cc (value_of-decimal n (small n e.0), values ns e.1)

some_numbers : (harts : ℕ) (row : List ℕ) → 1 ≤ harts → is_odd_row harts row ≡ false → 0 < length row
some_numbers harts row s h = grind (arith, nat_tests)

rows_read : (harts : ℕ) (rows : List (List ℕ)) → 1 ≤ harts → has_out_of_range rows ≡ false → has_odd_row harts rows ≡ false → AllByRecursion IsRow (numerals_of rows)
rows_read harts [] s h k = tt
rows_read harts (r ∷ rs) s h k =
    let e : (list_any is_out_of_range r ≡ false) × (has_out_of_range rs ≡ false) = either_false (list_any is_out_of_range r) (has_out_of_range rs) h in
    let f : (is_odd_row harts r ≡ false) × (has_odd_row harts rs ≡ false) = either_false (is_odd_row harts r) (has_odd_row harts rs) k in
    let some : 0 < length r = some_numbers harts r s f.0 in
    (record { some = omega (arith, length-map r decimal, some); numerals = numerals r e.0 }, rows_read harts rs s e.1 f.1)

numbers_back : (rows : List (List ℕ)) → has_out_of_range rows ≡ false → numbers_of (numerals_of rows) ≡ rows
numbers_back [] h = refl
numbers_back (r ∷ rs) h =
    let e : (list_any is_out_of_range r ≡ false) × (has_out_of_range rs ≡ false) = either_false (list_any is_out_of_range r) (has_out_of_range rs) h in
    cc (values r e.0, numbers_back rs e.1)

pub reads : (p : Planned) → IsPlan p → ReadsAs (plan_text p.rows) p.rows
reads p h = (
  numerals_of p.rows,
  record {
    whole = refl;
    some = omega (arith, length-map p.rows (map decimal), h.some_rows);
    each = rows_read p.harts p.rows h.some_harts h.in_range h.sized;
  },
  sym (numbers_back p.rows h.in_range),
)

pub the_plans : TextIsThePlans
the_plans = λ p h. (
  reads p h,
  λ rows k.
      let r = reads p h in
      k.2 ∙ ap numbers_of (unique (plan_text p.rows) k.0 r.0 k.1 r.1) ∙ sym r.2,
)

-- ---- the text, number by number

pub row_text-cons : (n : ℕ) (ns : List ℕ) → row_text (map decimal (n ∷ ns)) ≡ decimal n ++ rest_text ns
row_text-cons n [] = refl
row_text-cons n (m ∷ ns) = ap (λ (t : List ℕ). decimal n ++ 32 ∷ t) (row_text-cons m ns)

pub row_text-split : (r : List ℕ) → 1 ≤ length r → row_text (map decimal r) ≡ decimal (get_or r 0 0) ++ rest_text (take (length r - 1) (drop 1 r))
row_text-split [] h = absurd (omega (arith, h))
row_text-split (n ∷ ns) h =
    let e : take (length (n ∷ ns) - 1) ns ≡ ns = grind (arith, common_steps) in
    row_text-cons n ns ∙ ap (λ (t : List ℕ). decimal n ++ rest_text t) (sym e)
