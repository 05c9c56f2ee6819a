-- What steps leave of a plan is accepted as a plan.
use Rattle.std.proofs.Common.{◌≡◌, ℕ, zero, suc, ◌+◌, ◌/◌, ◌%◌, ◌<◌, ◌≤◌, ◌==◌, ◌&&◌, ◌||◌, not, nat_lt, Bool, true, false, inl, inr, List, [], ◌∷◌, ◌++◌, length, get_or, set, map, take, drop, Ok, refl, sym, ◌∙◌, ap, subst, arith}
use Rattle.std.proofs.lemmas.Bool.{cases_lt}
use Rattle.std.proofs.lemmas.Bool.Decides.{nat_tests}
use Rattle.std.proofs.lemmas.List.{length-append, length-drop, length-map, length-set, length-take}
use Rattle.std.proofs.lemmas.List.Folds.{list_any-append}
use Rattle.std.specs.List.{list_any}
use Rattle.round_planner.specs.Causes.{checked}
use Rattle.round_planner.specs.Rows.{has_odd_row, has_out_of_range, is_odd_row, is_out_of_range}
use Rattle.plan_hunt.specs.Steps.{changed, least, rows_after, smaller, with_single}
use Rattle.plan_hunt.specs.declared.step.Change.{Change}
use Rattle.plan_hunt.specs.declared.step.Change.TheVariants.{LeftOut, Least, Each, Single}
use Rattle.plan_hunt.specs.declared.step.Step.{Step}
use Rattle.plan_hunt.specs.declared.step.Way.{Way}
use Rattle.plan_hunt.specs.declared.step.Way.TheVariants.{ToOne, ToHalf, OneLess}
use Rattle.plan_hunt.proofs.Sizes.{IsFine, fine, neither}

-- ---- no element passes a test

both : (a b : Bool) → a ≡ false → b ≡ false → (a || b) ≡ false
both true b e f = cc
both false b e f = f

none_append : {X : Type 0} (p : X → Bool) (xs ys : List X) → list_any p xs ≡ false → list_any p ys ≡ false → list_any p (xs ++ ys) ≡ false
none_append p xs ys e f = list_any-append p xs ys ∙ both (list_any p xs) (list_any p ys) e f

none_take : {X : Type 0} (p : X → Bool) (n : ℕ) (xs : List X) → list_any p xs ≡ false → list_any p (take n xs) ≡ false
none_take p zero [] e = refl
none_take p zero (x ∷ xs) e = refl
none_take p (suc n) [] e = refl
none_take p (suc n) (x ∷ xs) e = let h = neither (p x) (list_any p xs) e in both (p x) (list_any p (take n xs)) h.0 (none_take p n xs h.1)

none_drop : {X : Type 0} (p : X → Bool) (n : ℕ) (xs : List X) → list_any p xs ≡ false → list_any p (drop n xs) ≡ false
none_drop p zero xs e = e
none_drop p (suc n) [] e = refl
none_drop p (suc n) (x ∷ xs) e = none_drop p n xs (neither (p x) (list_any p xs) e).1

none_at : {X : Type 0} (p : X → Bool) (xs : List X) (i : ℕ) (d : X) → i < length xs → list_any p xs ≡ false → p (get_or xs i d) ≡ false
none_at p [] i d l e = absurd (omega (arith, l))
none_at p (x ∷ xs) zero d l e = (neither (p x) (list_any p xs) e).0
none_at p (x ∷ xs) (suc i) d l e = none_at p xs i d (omega (arith, l)) (neither (p x) (list_any p xs) e).1

none_map : {X : Type 0} (p : X → Bool) (f : X → X) (xs : List X) → ((x : X) → p x ≡ false → p (f x) ≡ false) → list_any p xs ≡ false → list_any p (map f xs) ≡ false
none_map p f [] h e = refl
none_map p f (x ∷ xs) h e = let n = neither (p x) (list_any p xs) e in both (p (f x)) (list_any p (map f xs)) (h x n.0) (none_map p f xs h n.1)

none_set : {X : Type 0} (p : X → Bool) (xs : List X) (i : ℕ) (v : X) → p v ≡ false → list_any p xs ≡ false → list_any p (set xs i v) ≡ false
none_set p [] i v h e = refl
none_set p (x ∷ xs) zero v h e = both (p v) (list_any p xs) h (neither (p x) (list_any p xs) e).1
none_set p (x ∷ xs) (suc i) v h e = let n = neither (p x) (list_any p xs) e in both (p x) (list_any p (set xs i v)) n.0 (none_set p xs i v h n.1)

set_past : (xs : List ℕ) (i v : ℕ) → length xs ≤ i → set xs i v ≡ xs
set_past [] i v l = refl
set_past (x ∷ xs) zero v l = absurd (omega (arith, l))
set_past (x ∷ xs) (suc i) v l = ap (λ (ys : List ℕ). x ∷ ys) (set_past xs i v (omega (arith, l)))

-- ---- quotas

quota_some : (n : ℕ) → is_out_of_range n ≡ false → 1 ≤ n
quota_some n h = let e : (n == 0) ≡ false = (neither (n == 0) (nat_lt 1000000 n) h).0 in grind (arith, nat_tests)

quota_few : (n : ℕ) → is_out_of_range n ≡ false → n ≤ 1000000
quota_few n h = let e : nat_lt 1000000 n ≡ false = (neither (n == 0) (nat_lt 1000000 n) h).1 in grind (arith, nat_tests)

in_range : (n : ℕ) → 1 ≤ n → n ≤ 1000000 → is_out_of_range n ≡ false
in_range n l h = grind (arith, nat_tests)

smaller_in_range : (w : Way) (n : ℕ) → is_out_of_range n ≡ false → is_out_of_range (smaller w n) ≡ false
smaller_in_range ToOne n h = refl
smaller_in_range ToHalf n h = let some = quota_some n h in let few = quota_few n h in in_range (n / 2 + n % 2) (omega (arith, some)) (omega (arith, few))
smaller_in_range OneLess n h = let few = quota_few n h in in_range (smaller OneLess n) (omega arith) (omega (arith, few))

least_some : (row : List ℕ) → list_any is_out_of_range row ≡ false → 1 ≤ least row
least_some [] h = omega arith
least_some (n ∷ ns) h = let e = neither (is_out_of_range n) (list_any is_out_of_range ns) h in omega (arith, quota_some n e.0, least_some ns e.1)

least_few : (row : List ℕ) → least row ≤ 1000000
least_few [] = omega arith
least_few (n ∷ ns) = omega (arith, least_few ns)

single_in_range : (hart : ℕ) (w : Way) (row : List ℕ) → list_any is_out_of_range row ≡ false → list_any is_out_of_range (with_single hart w row) ≡ false
single_in_range hart w row h = elim (cases_lt hart (length row)) [
  | inl l ↦ none_set is_out_of_range row hart (smaller w (get_or row hart 0)) (smaller_in_range w (get_or row hart 0) (none_at is_out_of_range row hart 0 l h)) h
  | inr m ↦ subst (λ (xs : List ℕ). list_any is_out_of_range xs ≡ false) (sym (set_past row hart (smaller w (get_or row hart 0)) m)) h
]

changed_in_range : (c : Change) (row : List ℕ) → list_any is_out_of_range row ≡ false → has_out_of_range (changed c row) ≡ false
changed_in_range LeftOut row h = refl
changed_in_range Least row h = both _ _ (both _ _ (in_range (least row) (least_some row h) (least_few row)) refl) refl
changed_in_range (Each w) row h = both _ _ (none_map is_out_of_range (smaller w) row (smaller_in_range w) h) refl
changed_in_range (Single hart w) row h = both _ _ (single_in_range hart w row h) refl

-- ---- lengths

same_length : (harts : ℕ) (row other : List ℕ) → length other ≡ length row → is_odd_row harts row ≡ false → is_odd_row harts other ≡ false
same_length harts row other e h = subst (λ (n : ℕ). (not (n == 1) && not (n == harts)) ≡ false) (sym e) h

changed_sized : (harts : ℕ) (c : Change) (row : List ℕ) → is_odd_row harts row ≡ false → has_odd_row harts (changed c row) ≡ false
changed_sized harts LeftOut row h = refl
changed_sized harts Least row h = refl
changed_sized harts (Each w) row h = both _ _ (same_length harts row (map (smaller w) row) (length-map row (smaller w)) h) refl
changed_sized harts (Single hart w) row h = both _ _ (same_length harts row (with_single hart w row) (length-set row hart (smaller w (get_or row hart 0))) h) refl

changed_few : (c : Change) (row : List ℕ) → length (changed c row) ≤ 1
changed_few LeftOut row = omega arith
changed_few Least row = omega arith
changed_few (Each w) row = omega arith
changed_few (Single hart w) row = omega arith

-- ---- all rows

parts : (p : List ℕ → Bool) (s : Step) (rows : List (List ℕ)) → list_any p rows ≡ false → list_any p (changed s.change (get_or rows s.row [])) ≡ false → list_any p (rows_after s rows) ≡ false
parts p s rows e f =
    none_append p (take s.row rows ++ changed s.change (get_or rows s.row [])) (drop (s.row + 1) rows)
    (none_append p (take s.row rows) (changed s.change (get_or rows s.row [])) (none_take p s.row rows e) f) (none_drop p (s.row + 1) rows e)

after_few : (s : Step) (rows : List (List ℕ)) → s.row < length rows → length (rows_after s rows) ≤ length rows
after_few s rows l =
    let row : List ℕ = get_or rows s.row [] in
    omega (
      arith,
      l,
      length-append (take s.row rows ++ changed s.change row) (drop (s.row + 1) rows),
      length-append (take s.row rows) (changed s.change row),
      length-take s.row rows,
      length-drop (s.row + 1) rows,
      changed_few s.change row,
    )

is_checked : (harts : ℕ) (rows : List (List ℕ)) → IsFine harts rows → checked harts rows ≡ Ok tt
is_checked harts rows h =
    let few : nat_lt 256 (length rows) ≡ false = let l = h.few in grind (arith, nat_tests) in
    rw (h.in_range, h.sized, few)

pub after_accepted : (harts : ℕ) (s : Step) (rows : List (List ℕ)) → s.row < length rows → checked harts rows ≡ Ok tt → checked harts (rows_after s rows) ≡ Ok tt
after_accepted harts s rows l e =
    let f : IsFine harts rows = fine harts rows e in
    is_checked harts (rows_after s rows) (record {
      in_range = parts (list_any is_out_of_range) s rows f.in_range (changed_in_range s.change (get_or rows s.row []) (none_at (list_any is_out_of_range) rows s.row [] l f.in_range));
      sized = parts (is_odd_row harts) s rows f.sized (changed_sized harts s.change (get_or rows s.row []) (none_at (is_odd_row harts) rows s.row [] l f.sized));
      few = omega (arith, after_few s rows l, f.few);
    })
