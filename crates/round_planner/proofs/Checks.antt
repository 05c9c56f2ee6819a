-- The checks of a plan's numbers: which cause they find, and what they say of each row.
use Rattle.std.proofs.Common.{◌≡◌, ◌≢◌, ℕ, zero, suc, get_or, ◌+◌, ◌<◌, ◌≤◌, ◌==◌, ◌||◌, min, nat_lt, if◌then◌else◌, Bool, true, false, List, [], ◌∷◌, ◌++◌, length, map, take, Some, None, Result, Ok, Err, refl, sym, ◌∙◌, ap, subst, inl, inr, ◌⊎◌, arith, not, ◌&&◌}
use Rattle.std.proofs.lemmas.List.{get_or-map, length-map, map-append, take_more}
use Rattle.std.proofs.lemmas.Bool.{cases_lt}
use Rattle.std.proofs.lemmas.Bool.Decides.{nat_tests}
use Rattle.std.specs.List.{list_any}
use Rattle.round_planner.specs.Causes.{IsLeast, Stands, checked}
use Rattle.round_planner.specs.Grammar.{IsPlanText, numbers_of, value_of}
use Rattle.round_planner.specs.Quotas.{IsQuota}
use Rattle.round_planner.specs.Reading.{Refuses, read_from, start}
use Rattle.round_planner.specs.Rows.{has_odd_row, has_out_of_range, is_odd_row, is_out_of_range}
use Rattle.host_io.specs.RunErrors.{plan_number}
use Rattle.host_io.specs.declared.plan_error.PlanError.{PlanError}
use Rattle.host_io.specs.declared.plan_error.PlanError.TheVariants.{NotAPlan, QuotaOutOfRange, RowLength, TooManyRows, OutOfMemory}
use Rattle.round_planner.proofs.Found.{Found, found, given}
use Rattle.round_planner.proofs.Told.{told}
use Rattle.round_planner.proofs.Unique.{unique}

pub list_any_map : {X Y : Type 0} (p : Y → Bool) (f : X → Y) (xs : List X) → list_any p (map f xs) ≡ list_any (λ x. p (f x)) xs
list_any_map p f [] = refl
list_any_map p f (x ∷ xs) = ap (λ (b : Bool). p (f x) || b) (list_any_map p f xs)

-- ---- the least cause

cause_of : ℕ → PlanError
cause_of n = if n == 31 then NotAPlan else (if n == 32 then QuotaOutOfRange else (if n == 33 then RowLength else (if n == 34 then TooManyRows else OutOfMemory)))

cause_back : (a : PlanError) → cause_of (plan_number a) ≡ a
unfolding cause_of
cause_back NotAPlan = refl
cause_back QuotaOutOfRange = refl
cause_back RowLength = refl
cause_back TooManyRows = refl
cause_back OutOfMemory = refl

least_is_one : (harts : ℕ) (text : List ℕ) (a b : PlanError) → IsLeast harts text a → IsLeast harts text b → a ≡ b
least_is_one harts text a b g h =
    let below : plan_number a < plan_number b → ⊥ = λ l. h.least a l g.stands in
    let above : plan_number b < plan_number a → ⊥ = λ l. g.least b l h.stands in
    let same : plan_number a ≡ plan_number b = elim (cases_lt (plan_number a) (plan_number b)) [
      | inl l ↦ absurd (below l)
      | inr l ↦ elim (cases_lt (plan_number b) (plan_number a)) [ inl m ↦ absurd (above m) | inr m ↦ omega (arith, l, m) ]
    ] in
    sym (cause_back a) ∙ ap cause_of same ∙ cause_back b

is_memory : (e : PlanError) → (e ≡ OutOfMemory) ⊎ (e ≢ OutOfMemory)
is_memory NotAPlan = inr (λ e. cc)
is_memory QuotaOutOfRange = inr (λ e. cc)
is_memory RowLength = inr (λ e. cc)
is_memory TooManyRows = inr (λ e. cc)
is_memory OutOfMemory = inl refl

-- what is answered where causes stand
pub exact : {X : Type 0} (harts : ℕ) (text : List ℕ) (e cause : PlanError) → (e ≢ OutOfMemory → IsLeast harts text e) → IsLeast harts text cause →
    (◌≡◌ {A = Result X PlanError} (Err e) (Err cause)) ⊎ (◌≡◌ {A = Result X PlanError} (Err e) (Err OutOfMemory))
exact harts text e cause r h = elim (is_memory e) [
  | inl m ↦ inr (ap (λ (d : PlanError). Err d) m)
  | inr n ↦ inl (ap (λ (d : PlanError). Err d) (least_is_one harts text e cause (r n) h))
]

-- ---- where there is no reading

pub not_read : (harts : ℕ) (text : List ℕ) (e : PlanError) → Refuses e (read_from start text) → e ≢ OutOfMemory → IsLeast harts text e
not_read harts text NotAPlan r n = record { stands = λ rows h. none (sym (given text rows h) ∙ r); least = below }
  where
    none : {X : Type 0} {x : X} → Some x ≡ None → ⊥
    none e = cc

    below : (other : PlanError) → plan_number other < 31 → Stands harts text other → ⊥
    below NotAPlan l s = omega (arith, l)
    below QuotaOutOfRange l s = omega (arith, l)
    below RowLength l s = omega (arith, l)
    below TooManyRows l s = omega (arith, l)
    below OutOfMemory l s = s
not_read harts text QuotaOutOfRange r n = absurd r
not_read harts text RowLength r n = absurd r
not_read harts text TooManyRows r n = absurd r
not_read harts text OutOfMemory r n = absurd (n refl)

-- ---- the numbers as they are told pass the same tests

told_range : (n : ℕ) → is_out_of_range (min n 1000001) ≡ is_out_of_range n
told_range n = grind (arith, nat_tests)

range_row : (ws : List (List ℕ)) → list_any is_out_of_range (map told ws) ≡ list_any is_out_of_range (map value_of ws)
range_row [] = refl
range_row (w ∷ ws) = cc (told_range (value_of w), range_row ws)

range_rows : (rows : List (List (List ℕ))) → has_out_of_range (map (map told) rows) ≡ has_out_of_range (numbers_of rows)
range_rows [] = refl
range_rows (r ∷ rs) = cc (range_row r, range_rows rs)

odd_row : (harts : ℕ) (r : List (List ℕ)) → is_odd_row harts (map told r) ≡ is_odd_row harts (map value_of r)
odd_row harts r = ap (λ (n : ℕ). not (n == 1) && not (n == harts)) (length-map r told ∙ sym (length-map r value_of))

odd_rows : (harts : ℕ) (rows : List (List (List ℕ))) → has_odd_row harts (map (map told) rows) ≡ has_odd_row harts (numbers_of rows)
odd_rows harts [] = refl
odd_rows harts (r ∷ rs) = cc (odd_row harts r, odd_rows harts rs)

-- ---- the least cause in the numbers

-- the cause stands in the numbers as they are told
abbrev Holds : ℕ → List (List ℕ) → PlanError → Type 0
Holds harts out NotAPlan = ⊥
Holds harts out QuotaOutOfRange = has_out_of_range out ≡ true
Holds harts out RowLength = has_odd_row harts out ≡ true
Holds harts out TooManyRows = 256 < length out
Holds harts out OutOfMemory = ⊥

to_holds : (harts : ℕ) (text : List ℕ) (out : List (List ℕ)) (c : PlanError) → Found text out → Stands harts text c → Holds harts out c
to_holds harts text out NotAPlan f s = s f.0 f.1
to_holds harts text out QuotaOutOfRange f s =
    ap has_out_of_range f.2 ∙ range_rows f.0 ∙ ap (λ (r : List (List (List ℕ))). has_out_of_range (numbers_of r)) (unique text f.0 s.0 f.1 s.1) ∙ s.2
to_holds harts text out RowLength f s =
    ap (has_odd_row harts) f.2 ∙ odd_rows harts f.0 ∙ ap (λ (r : List (List (List ℕ))). has_odd_row harts (numbers_of r)) (unique text f.0 s.0 f.1 s.1) ∙ s.2
to_holds harts text out TooManyRows f s =
    let same : length out ≡ length s.0 = ap length f.2 ∙ length-map f.0 (map told) ∙ ap length (unique text f.0 s.0 f.1 s.1) in
    omega (arith, same, s.2)
to_holds harts text out OutOfMemory f s = s

to_stands : (harts : ℕ) (text : List ℕ) (out : List (List ℕ)) (c : PlanError) → Found text out → Holds harts out c → Stands harts text c
to_stands harts text out NotAPlan f s = absurd s
to_stands harts text out QuotaOutOfRange f s = (f.0, f.1, sym (range_rows f.0) ∙ sym (ap has_out_of_range f.2) ∙ s)
to_stands harts text out RowLength f s = (f.0, f.1, sym (odd_rows harts f.0) ∙ sym (ap (has_odd_row harts) f.2) ∙ s)
to_stands harts text out TooManyRows f s =
    let same : length out ≡ length f.0 = ap length f.2 ∙ length-map f.0 (map told) in
    (f.0, f.1, omega (arith, same, s))
to_stands harts text out OutOfMemory f s = s

number_small : (e : PlanError) → plan_number e ≤ 34
number_small NotAPlan = omega arith
number_small QuotaOutOfRange = omega arith
number_small RowLength = omega arith
number_small TooManyRows = omega arith
number_small OutOfMemory = omega arith

none_below : (harts : ℕ) (out : List (List ℕ)) (e other : PlanError) → (32 < plan_number e → has_out_of_range out ≡ false) →
    (33 < plan_number e → has_odd_row harts out ≡ false) → plan_number other < plan_number e → Holds harts out other → ⊥
none_below harts out e NotAPlan q r l s = s
none_below harts out e QuotaOutOfRange q r l s = cc (sym (q l) ∙ s)
none_below harts out e RowLength q r l s = cc (sym (r l) ∙ s)
none_below harts out e TooManyRows q r l s = omega (arith, l, number_small e)
none_below harts out e OutOfMemory q r l s = s

record Least (harts : ℕ) (out : List (List ℕ)) (e : PlanError) : Type 0 where
  stands : Holds harts out e
  least : (other : PlanError) → plan_number other < plan_number e → Holds harts out other → ⊥

many : (n : ℕ) → nat_lt 256 n ≡ true → 256 < n
many n e = grind (arith, nat_tests)

few : (n : ℕ) → nat_lt 256 n ≡ false → n ≤ 256
few n e = grind (arith, nat_tests)

least_checked : (harts : ℕ) (out : List (List ℕ)) (e : PlanError) (a b c : Bool) → has_out_of_range out ≡ a → has_odd_row harts out ≡ b → nat_lt 256 (length out) ≡ c →
    ◌≡◌ {A = Result (Unit {0}) PlanError} (if a then Err QuotaOutOfRange else (if b then Err RowLength else (if c then Err TooManyRows else Ok tt))) (Err e) → Least harts out e
least_checked harts out e true b c p q r is =
    let same : QuotaOutOfRange ≡ e = (cc) in
    subst (Least harts out) same (record { stands = p; least = λ o. none_below harts out QuotaOutOfRange o (λ l. absurd (omega (arith, l))) (λ l. absurd (omega (arith, l))) })
least_checked harts out e false true c p q r is =
    let same : RowLength ≡ e = (cc) in
    subst (Least harts out) same (record { stands = q; least = λ o. none_below harts out RowLength o (λ l. p) (λ l. absurd (omega (arith, l))) })
least_checked harts out e false false true p q r is =
    let same : TooManyRows ≡ e = (cc) in
    subst (Least harts out) same (record { stands = many (length out) r; least = λ o. none_below harts out TooManyRows o (λ l. p) (λ l. q) })
least_checked harts out e false false false p q r is = cc

pub not_accepted : (harts : ℕ) (text : List ℕ) (out : List (List ℕ)) (e : PlanError) → read_from start text ≡ Some out → checked harts out ≡ Err e → IsLeast harts text e
not_accepted harts text out e r is =
    let f : Found text out = found text out r in
    let h : Least harts out e = least_checked harts out e (has_out_of_range out) (has_odd_row harts out) (nat_lt 256 (length out)) refl refl refl is in
    record { stands = to_stands harts text out e f h.stands; least = λ o l s. h.least o l (to_holds harts text out o f s) }

-- ---- what is accepted

pub record Clear (harts : ℕ) (out : List (List ℕ)) : Type 0 where
  pub in_range : has_out_of_range out ≡ false
  pub sized : has_odd_row harts out ≡ false
  pub few : length out ≤ 256

clear_by : (harts : ℕ) (out : List (List ℕ)) (x : Unit {0}) (a b c : Bool) → has_out_of_range out ≡ a → has_odd_row harts out ≡ b → nat_lt 256 (length out) ≡ c →
    ◌≡◌ {A = Result (Unit {0}) PlanError} (if a then Err QuotaOutOfRange else (if b then Err RowLength else (if c then Err TooManyRows else Ok tt))) (Ok x) → Clear harts out
clear_by harts out x true b c p q r is = absurd (cc)
clear_by harts out x false true c p q r is = absurd (cc)
clear_by harts out x false false true p q r is = absurd (cc)
clear_by harts out x false false false p q r is = record { in_range = p; sized = q; few = few (length out) r }

pub clear : (harts : ℕ) (out : List (List ℕ)) (x : Unit {0}) → checked harts out ≡ Ok x → Clear harts out
clear harts out x is = clear_by harts out x (has_out_of_range out) (has_odd_row harts out) (nat_lt 256 (length out)) refl refl refl is

pub none_stands : (harts : ℕ) (text : List ℕ) (out : List (List ℕ)) (c : PlanError) → read_from start text ≡ Some out → Clear harts out → Stands harts text c → ⊥
none_stands harts text out NotAPlan r h s = to_holds harts text out NotAPlan (found text out r) s
none_stands harts text out QuotaOutOfRange r h s = cc (sym h.in_range ∙ to_holds harts text out QuotaOutOfRange (found text out r) s)
none_stands harts text out RowLength r h s = cc (sym h.sized ∙ to_holds harts text out RowLength (found text out r) s)
none_stands harts text out TooManyRows r h s = omega (arith, h.few, to_holds harts text out TooManyRows (found text out r) s)
none_stands harts text out OutOfMemory r h s = s

or_false : (a b : Bool) → (a || b) ≡ false → (a ≡ false) × (b ≡ false)
or_false true b e = cc
or_false false b e = (refl, e)

told_exact : (n : ℕ) → is_out_of_range (min n 1000001) ≡ false → min n 1000001 ≡ n
told_exact n e = grind (arith, nat_tests)

exact_row : (ws : List (List ℕ)) → list_any is_out_of_range (map told ws) ≡ false → map told ws ≡ map value_of ws
exact_row [] h = refl
exact_row (w ∷ ws) h =
    let both : (is_out_of_range (told w) ≡ false) × (list_any is_out_of_range (map told ws) ≡ false) = or_false (is_out_of_range (told w)) (list_any is_out_of_range (map told ws)) h in
    cc (told_exact (value_of w) both.0, exact_row ws both.1)

exact_rows : (rows : List (List (List ℕ))) → has_out_of_range (map (map told) rows) ≡ false → map (map told) rows ≡ numbers_of rows
exact_rows [] h = refl
exact_rows (r ∷ rs) h =
    let both : (list_any is_out_of_range (map told r) ≡ false) × (has_out_of_range (map (map told) rs) ≡ false) =
    or_false (list_any is_out_of_range (map told r)) (has_out_of_range (map (map told) rs)) h in
    cc (exact_row r both.0, exact_rows rs both.1)

pub numbers_read : (harts : ℕ) (text : List ℕ) (out : List (List ℕ)) → read_from start text ≡ Some out → Clear harts out →
    (rows : List (List (List ℕ))) × IsPlanText text rows × (out ≡ numbers_of rows)
numbers_read harts text out r h =
    let f : Found text out = found text out r in
    (f.0, f.1, f.2 ∙ exact_rows f.0 (sym (ap has_out_of_range f.2) ∙ h.in_range))

pub some_read : (text : List ℕ) (out : List (List ℕ)) → read_from start text ≡ Some out → 1 ≤ length out
some_read text out r =
    let f : Found text out = found text out r in
    omega (arith, ap length f.2 ∙ length-map f.0 (map told), f.1.some)

-- ---- the same of a list that shows the rows

pub rows_clear : {X : Type 0} (items : X → List ℕ) (xs ys : List X) (harts : ℕ) (x : Unit {0}) → xs ≡ ys → Ok x ≡ checked harts (map items xs) → Clear harts (map items ys)
rows_clear {X = X} items xs ys harts x same is = clear harts (map items ys) x (sym (is ∙ ap (λ (zs : List X). checked harts (map items zs)) same))

pub rows_refused : {X : Type 0} (items : X → List ℕ) (xs ys : List X) (harts : ℕ) (text : List ℕ) (e : PlanError) → xs ≡ ys →
    read_from start text ≡ Some (map items ys) → Err e ≡ checked harts (map items xs) → IsLeast harts text e
rows_refused {X = X} items xs ys harts text e same r is =
    not_accepted harts text (map items ys) e r (sym (is ∙ ap (λ (zs : List X). checked harts (map items zs)) same))

-- ---- what the checks say of one row and one number

none_passes : {X : Type 0} (p : X → Bool) (xs : List X) (i : ℕ) (d : X) → list_any p xs ≡ false → i < length xs → p (get_or xs i d) ≡ false
none_passes p [] i d h l = absurd (omega (arith, l))
none_passes p (x ∷ xs) zero d h l = (or_false (p x) (list_any p xs) h).0
none_passes p (x ∷ xs) (suc i) d h l = none_passes p xs i d (or_false (p x) (list_any p xs) h).1 (omega (arith, l))

row_passes : {X : Type 0} (items : X → List ℕ) (p : List ℕ → Bool) (xs : List X) (i : ℕ) (d x : X) → list_any p (map items xs) ≡ false → i < length xs →
    x ≡ get_or xs i d → p (items x) ≡ false
row_passes items p xs i d x h l e =
    ap (λ y. p (items y)) e ∙ none_passes (λ y. p (items y)) xs i d (sym (list_any_map p items xs) ∙ h) l

row_size : (harts : ℕ) (row : List ℕ) → is_odd_row harts row ≡ false → (length row ≡ 1) ⊎ (length row ≡ harts)
row_size harts row h = size_by (length row) harts h
  where
    size_by : (n m : ℕ) → (not (n == 1) && not (n == m)) ≡ false → (n ≡ 1) ⊎ (n ≡ m)
    size_by n m h = grind (arith, nat_tests)

pub row_at_size : {X : Type 0} (items : X → List ℕ) (harts : ℕ) (xs : List X) (i : ℕ) (d x : X) → has_odd_row harts (map items xs) ≡ false → i < length xs →
    x ≡ get_or xs i d → (length (items x) ≡ 1) ⊎ (length (items x) ≡ harts)
row_at_size items harts xs i d x h l e = row_size harts (items x) (row_passes items (is_odd_row harts) xs i d x h l e)

quota_in_range : (n : ℕ) → is_out_of_range n ≡ false → IsQuota n
quota_in_range n h = grind (arith, nat_tests)

pub quota_at : {X : Type 0} (items : X → List ℕ) (xs : List X) (i : ℕ) (d x : X) (j e n : ℕ) → has_out_of_range (map items xs) ≡ false → i < length xs →
    x ≡ get_or xs i d → j < length (items x) → n ≡ get_or (items x) j e → IsQuota n
quota_at items xs i d x j e n h l is m at =
    quota_in_range n (ap is_out_of_range at ∙ none_passes is_out_of_range (items x) j e (row_passes items (list_any is_out_of_range) xs i d x h l is) m)

-- ---- a copy, row by row

pub one_more_row : {X : Type 0} (items : X → List ℕ) (ys xs zs : List X) (x y : X) (i : ℕ) (d : X) → zs ≡ ys ++ x ∷ [] → map items ys ≡ take i (map items xs) →
    items x ≡ items y → y ≡ get_or xs i d → i < length xs → map items zs ≡ take (i + 1) (map items xs)
one_more_row items ys xs zs x y i d is front same at l =
    ap (map items) is ∙ map-append items ys (x ∷ [])
    ∙ ap (λ (r : List (List ℕ)). r ++ items x ∷ []) front
    ∙ ap (λ (r : List ℕ). take i (map items xs) ++ r ∷ []) (same ∙ ap items at ∙ sym (get_or-map items xs i d [] l))
    ∙ sym (take_more (map items xs) i [] (omega (arith, length-map xs items, l)))
