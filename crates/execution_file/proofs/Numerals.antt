-- Numbers: what is read of one is written so, and what is written so is read.
use Rattle.std.proofs.Common.{◌≡◌, ℕ, zero, suc, ◌+◌, ◌-◌, ◌*◌, ◌^◌, ◌<◌, ◌≤◌, Bool, true, false, cond, leb, eqb, not, List, [], ◌∷◌, ◌++◌, length, get_or, take, drop, Result, Ok, Err, refl, sym, ap, subst, ◌∙◌, arith, rules}
use Rattle.std.proofs.lemmas.Bool.Decides.{nat_tests}
use Rattle.std.proofs.lemmas.Fmt.{decimal_digit, decimal_nonempty, digits_decimal, digits_value-decimal, first_decimal, decimal-digits_value}
use Rattle.std.proofs.Math.ListN.{drop_of_length-le}
use Rattle.std.proofs.Math.Seq.{drop-cons}
use Rattle.std.proofs.lemmas.Str.Parse.{IsNumeralModel, numerals_by_fold}
use Rattle.std.specs.Fmt.{decimal}
use Rattle.std.specs.List.{AllByRecursion}
use Rattle.execution_file.specs.Numerals.{is_digit, digits_at, after_digits, is_numeral, value_from, value_of}

abbrev pub IsDigit : ℕ → Type 0
IsDigit b = (48 ≤ b) × (b < 58)

own : IsNumeralModel (AllByRecursion IsDigit) value_of
own = numerals_by_fold _ (search rules) value_from (search rules)

digit_true : (b : ℕ) → is_digit b ≡ true → IsDigit b
digit_true b e = grind (arith, nat_tests, e)

true_digit : (b : ℕ) → IsDigit b → is_digit b ≡ true
true_digit b h = grind (arith, nat_tests, h.0, h.1)

-- ---- the front of a text

all_if : (t : Bool) (b : ℕ) (ds : List ℕ) → is_digit b ≡ t → AllByRecursion IsDigit ds → AllByRecursion IsDigit (cond t (b ∷ ds) [])
all_if true b ds e h = (digit_true b e, h)
all_if false b ds e h = tt

pub all_digits : (bs : List ℕ) → AllByRecursion IsDigit (digits_at bs)
all_digits [] = tt
all_digits (b ∷ bs) = all_if (is_digit b) b (digits_at bs) refl (all_digits bs)

split_if : (t : Bool) (b : ℕ) (bs ds rest : List ℕ) → bs ≡ ds ++ rest → b ∷ bs ≡ cond t (b ∷ ds) [] ++ cond t rest (b ∷ bs)
split_if true b bs ds rest e = ap (λ (t : List ℕ). b ∷ t) e
split_if false b bs ds rest e = refl

pub digits_split : (bs : List ℕ) → bs ≡ digits_at bs ++ after_digits bs
digits_split [] = refl
digits_split (b ∷ bs) = split_if (is_digit b) b bs (digits_at bs) (after_digits bs) (digits_split bs)

stays_if : (t : Bool) (b : ℕ) (ds rest bs : List ℕ) → cond t (b ∷ ds) [] ≡ [] → cond t rest (b ∷ bs) ≡ b ∷ bs
stays_if true b ds rest bs e = absurd cc
stays_if false b ds rest bs e = refl

after_none : (rest : List ℕ) → digits_at rest ≡ [] → after_digits rest ≡ rest
after_none [] e = refl
after_none (b ∷ bs) e = stays_if (is_digit b) b (digits_at bs) (after_digits bs) bs e

pub front_digits : (ds rest : List ℕ) → AllByRecursion IsDigit ds → digits_at rest ≡ [] → digits_at (ds ++ rest) ≡ ds
front_digits [] rest h e = e
front_digits (d ∷ ds) rest h e = rw (true_digit d h.0) (ap (λ (t : List ℕ). d ∷ t) (front_digits ds rest h.1 e))

pub front_after : (ds rest : List ℕ) → AllByRecursion IsDigit ds → digits_at rest ≡ [] → after_digits (ds ++ rest) ≡ rest
front_after [] rest h e = after_none rest e
front_after (d ∷ ds) rest h e = rw (true_digit d h.0) (front_after ds rest h.1 e)

-- ---- numerals

some_digits : (ds : List ℕ) → is_numeral ds ≡ true → 0 < length ds
some_digits [] e = absurd cc
some_digits (d ∷ []) e = omega arith
some_digits (d ∷ c ∷ ds) e = omega arith

no_zero : (d : ℕ) → not (eqb d 48) ≡ true → d ≡ 48 → ⊥
no_zero d e z = grind (arith, nat_tests, e, z)

lone_zero : (ds : List ℕ) → is_numeral ds ≡ true → get_or ds 0 0 ≡ 48 → length ds ≡ 1
lone_zero [] e z = absurd cc
lone_zero (d ∷ []) e z = refl
lone_zero (d ∷ c ∷ ds) e z = absurd (no_zero d e z)

-- digits that are a numeral are how their number is written
pub numeral_is : (ds : List ℕ) → AllByRecursion IsDigit ds → is_numeral ds ≡ true → value_of ds < 2 ^ 64 → decimal (value_of ds) ≡ ds
numeral_is ds h e small = decimal-digits_value own ds h (some_digits ds e) (lone_zero ds e) small

not_zero : (d : ℕ) → 48 < d → not (eqb d 48) ≡ true
not_zero d l = grind (arith, nat_tests, l)

no_zero_first : (ds : List ℕ) → 48 < get_or ds 0 0 → is_numeral ds ≡ true
no_zero_first [] l = absurd (omega (arith, l))
no_zero_first (d ∷ []) l = refl
no_zero_first (d ∷ c ∷ ds) l = not_zero d l

pub decimal_numeral : (n : ℕ) → n < 2 ^ 64 → is_numeral (decimal n) ≡ true
decimal_numeral zero h = ap is_numeral (decimal_digit 0 (omega arith))
decimal_numeral (suc n) h = no_zero_first (decimal (suc n)) (first_decimal (suc n) (omega arith) h)

pub decimal_digits : (n : ℕ) → n < 2 ^ 64 → AllByRecursion IsDigit (decimal n)
decimal_digits n h = digits_decimal own n h

pub decimal_value : (n : ℕ) → n < 2 ^ 64 → value_of (decimal n) ≡ n
decimal_value n h = digits_value-decimal own n h

-- ---- a value does not fall with more digits

pub value_grows : (n : ℕ) (ds : List ℕ) → n ≤ value_from n ds
value_grows n [] = omega arith
value_grows n (d ∷ ds) = omega (arith, value_grows (10 * n + (d - 48)) ds)

-- ---- as loops read them

next_of : (bs : List ℕ) (i : ℕ) → i < length bs → drop i bs ≡ get_or bs i 0 ∷ drop (i + 1) bs
next_of bs i low = let e : suc i ≡ i + 1 = omega arith in drop-cons bs i 0 low ∙ ap (λ (n : ℕ). get_or bs i 0 ∷ drop n bs) e

-- the first bytes are digits, and what stands behind them is still to be looked at
pub record Splits (bs : List ℕ) (k : ℕ) : Type 0 where
  pub within : k ≤ length bs
  pub digits : digits_at bs ≡ take k bs ++ digits_at (drop k bs)
  pub rest : after_digits bs ≡ after_digits (drop k bs)

-- no digit stands there
pub record Stops (bs : List ℕ) (k : ℕ) : Type 0 where
  pub digits : digits_at (drop k bs) ≡ []

pub value_more : (v w d i : ℕ) (ds : List ℕ) (total : ℕ) → i < length ds → d ≡ get_or ds i 0 → w ≡ 10 * v + (d - 48) → value_from v (drop i ds) ≡ total → value_from w (drop (i + 1) ds) ≡ total
value_more v w d i ds total low is e so_far =
    let n : drop i ds ≡ d ∷ drop (i + 1) ds = next_of ds i low ∙ ap (λ (x : ℕ). x ∷ drop (i + 1) ds) (sym is) in
    let one : value_from v (drop i ds) ≡ value_from (10 * v + (d - 48)) (drop (i + 1) ds) = ap (value_from v) n in
    ap (λ (x : ℕ). value_from x (drop (i + 1) ds)) e ∙ sym one ∙ so_far

pub value_done : (v i : ℕ) (ds : List ℕ) (total : ℕ) → length ds ≤ i → value_from v (drop i ds) ≡ total → v ≡ total
value_done v i ds total all so_far = sym (ap (value_from v) (drop_of_length-le ds all)) ∙ so_far

-- what passes 64 bits on the way passes them at the end
pub value_over : (v d i : ℕ) (ds : List ℕ) (total : ℕ) → i < length ds → d ≡ get_or ds i 0 → (10 * v + (d - 48) < 2 ^ 64 → ⊥) → value_from v (drop i ds) ≡ total → total < 2 ^ 64 → ⊥
value_over v d i ds total low is over so_far small =
    let whole = value_more v (10 * v + (d - 48)) d i ds total low is refl so_far in
    let grown = value_grows (10 * v + (d - 48)) (drop (i + 1) ds) in
    let fits : 10 * v + (d - 48) < 2 ^ 64 = omega (arith, whole, grown, small) in
    over fits
