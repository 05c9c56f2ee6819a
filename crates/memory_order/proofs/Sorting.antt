-- Sorting the indexes of a trace's memory operations by rank gives the order by rounds.
use Rattle.std.proofs.Common.{◌≡◌, ◌≢◌, ℕ, zero, suc, ◌+◌, ◌-◌, ◌<◌, ◌≤◌, ◌==◌, Bool, true, false, if◌then◌else◌, List, [], ◌∷◌, length, get_or, sym, ap, ◌∙◌, subst, inl, inr, arith, Contains, filter, add-zero, zero-add}
use Rattle.std.specs.List.{AllPairs, range_with_len}
use Rattle.std.specs.List.Sorted.{IsNonDecreasingBy, IsPermutation, IsSortedByKey, IsStableByKey, IsStrictlyIncreasing}
use Rattle.std.specs.Ordering.{nat_cmp}
use Rattle.std.proofs.lemmas.Bool.{cases_lt}
use Rattle.std.proofs.lemmas.Bool.Decides.{Decides-eqb, nat_tests}
use Rattle.std.proofs.lemmas.List.{get_or_default}
use Rattle.std.proofs.lemmas.List.Elements.{filter_passes}
use Rattle.std.proofs.lemmas.List.FromFn.{get_or-range_with_len, length-range_with_len}
use Rattle.std.proofs.lemmas.List.Kept.{AllPairs-from_increasing, IsStrictlyIncreasing-filter}
use Rattle.std.proofs.lemmas.List.Sorted.{All-permutation, Contains-permutation, ties_still_rise}
use Rattle.std.proofs.lemmas.Map.Keys.{IsDistinct-IsPermutation}
use Rattle.std.proofs.lemmas.Map.Made.{AllPairs-from_IsDistinct, IsDistinct-from_AllPairs}
use Rattle.round_schedule.specs.declared.event.Event.{Event}
use Rattle.round_schedule.specs.Positions.{event}
use Rattle.memory_order.specs.Operations.{is_operation}
use Rattle.memory_order.specs.Orders.{ListsOperations}
use Rattle.memory_order.specs.RoundOrder.{IsRoundOrder, RanksBefore, rank}
use Rattle.memory_order.proofs.Facts.{within}

-- ---- the indexes that pass a test, in rising order

contains_more : (x y : ℕ) (xs : List ℕ) (b : Bool) → Contains xs x → Contains (if b then (y ∷ xs) else xs) x
contains_more x y xs true h = (suc h.0, omega (arith, h.1), h.2)
contains_more x y xs false h = h

contains_first : (x y : ℕ) (xs : List ℕ) (b : Bool) → b ≡ true → y ≡ x → Contains (if b then (y ∷ xs) else xs) x
contains_first x y xs true h e = (0, omega arith, e)
contains_first x y xs false h e = cc

contains_passing : (p : ℕ → Bool) (xs : List ℕ) (x k : ℕ) → k < length xs → get_or xs k x ≡ x → p x ≡ true → Contains (filter p xs) x
contains_passing p [] x k l e h = absurd (omega arith)
contains_passing p (y ∷ ys) x zero l e h = contains_first x y (filter p ys) (p y) (ap p e ∙ h) e
contains_passing p (y ∷ ys) x (suc k) l e h = contains_more x y (filter p ys) (p y) (contains_passing p ys x k (omega arith) e h)

increasing : (n : ℕ) → IsStrictlyIncreasing (range_with_len 0 n)
increasing n k h =
    let l = length-range_with_len 0 n in
    let a = get_or-range_with_len 0 n k 0 (omega (arith, l, h)) in
    let b = get_or-range_with_len 0 n (k + 1) 0 (omega (arith, l, h)) in
    omega (arith, a, b)

-- the indexes of the operations
abbrev pub operations : List Event → List ℕ
operations t = filter (λ i. is_operation (event t i)) (range_with_len 0 (length t))

rising : (t : List Event) → AllPairs (λ a b. a < b) (operations t)
rising t = AllPairs-from_increasing (operations t) (IsStrictlyIncreasing-filter (λ i. is_operation (event t i)) (range_with_len 0 (length t)) (increasing (length t)))

each : (t : List Event) (i : ℕ) → is_operation (event t i) ≡ true → Contains (operations t) i
each t i h =
    let l = within t i h in
    contains_passing (λ i. is_operation (event t i)) (range_with_len 0 (length t)) i i (omega (arith, length-range_with_len 0 (length t), l))
    (get_or-range_with_len 0 (length t) i i l ∙ zero-add i) h

-- ---- a stable sort

same_test : (x y : ℕ) → (x == y) ≡ (y == x)
same_test x y = grind (arith, nat_tests)

distinct_permuted : (xs ys : List ℕ) → IsPermutation xs ys → AllPairs (λ a b. a ≢ b) xs → AllPairs (λ a b. a ≢ b) ys
distinct_permuted xs ys p h =
    AllPairs-from_IsDistinct Decides-eqb ys (IsDistinct-IsPermutation (λ a b. a == b) same_test xs ys p (IsDistinct-from_AllPairs Decides-eqb xs h))

pub lists_permuted : (t : List Event) (g : List ℕ) → IsPermutation (operations t) g → ListsOperations t g
lists_permuted t g p = record {
  only = All-permutation (λ i. is_operation (event t i) ≡ true) (operations t) g p (filter_passes (λ i. is_operation (event t i)) (range_with_len 0 (length t)));
  each = λ i h. Contains-permutation (operations t) g i p (each t i h);
  once = distinct_permuted (operations t) g p (λ i j d l m e. let r = rising t i j d l m in omega arith);
}

-- equal keys that rise from index to index rise over any distance
ties_far : (f : ℕ → ℕ) (g : List ℕ) → IsNonDecreasingBy f g →
    ((k d : ℕ) → k + 1 < length g → f (get_or g k d) ≡ f (get_or g (k + 1) d) → get_or g k d ≤ get_or g (k + 1) d) →
    (i n : ℕ) → i + n < length g → f (get_or g i 0) ≡ f (get_or g (i + n) 0) → get_or g i 0 ≤ get_or g (i + n) 0
ties_far f g up ties i zero l e = omega (arith, ap (λ k. get_or g k 0) (add-zero i))
ties_far f g up ties i (suc n) l e =
    let s : i + suc n ≡ i + n + 1 = omega arith in
    let a = up i (i + n) 0 (omega arith) (omega arith) in
    let b = up (i + n) (i + n + 1) 0 (omega arith) (omega arith) in
    let es = ap (λ k. f (get_or g k 0)) s in
    let gs = ap (λ k. get_or g k 0) s in
    let first : f (get_or g i 0) ≡ f (get_or g (i + n) 0) = omega (arith, a, b, e, es) in
    let second : f (get_or g (i + n) 0) ≡ f (get_or g (i + n + 1) 0) = omega (arith, a, b, e, es) in
    let low = ties_far f g up ties i n (omega arith) first in
    let high = ties (i + n) 0 (omega arith) second in
    omega (arith, low, high, gs)

ranked : (t : List Event) (g : List ℕ) → AllPairs (λ a b. a ≢ b) g → IsNonDecreasingBy (λ i. rank (event t i)) g →
    ((k d : ℕ) → k + 1 < length g → rank (event t (get_or g k d)) ≡ rank (event t (get_or g (k + 1) d)) → get_or g k d ≤ get_or g (k + 1) d) →
    AllPairs (RanksBefore t) g
ranked t g differ up ties i j d l m =
    let ei = get_or_default g i d 0 (omega arith) in
    let ej = get_or_default g j d 0 m in
    subst (λ a. RanksBefore t a (get_or g j d)) (sym ei) (subst (λ b. RanksBefore t (get_or g i 0) b) (sym ej) at_zero)
  where
    at_zero : RanksBefore t (get_or g i 0) (get_or g j 0)
    at_zero = elim (cases_lt (rank (event t (get_or g i 0))) (rank (event t (get_or g j 0)))) [
      | inl f ↦ inl f
      | inr f ↦
          let u = up i j 0 (omega arith) m in
          let e : rank (event t (get_or g i 0)) ≡ rank (event t (get_or g j 0)) = omega arith in
          let s : i + (j - i) ≡ j = omega arith in
          let n = ties_far (λ k. rank (event t k)) g up ties i (j - i) (omega arith) (e ∙ ap (λ k. rank (event t (get_or g k 0))) (sym s)) in
          let o = differ i j 0 l m in
          let q = ap (λ k. get_or g k 0) s in
          inr (e, omega (arith, n, o, q))
    ]

sorted_already : (t : List Event) → IsSortedByKey (λ i. i) nat_cmp (operations t)
sorted_already t k d a b = let r = rising t k (k + 1) d (omega arith) b in grind (arith, nat_tests)

pub by_stable_sort : (t : List Event) (g : List ℕ) → IsPermutation (operations t) g → IsNonDecreasingBy (λ i. rank (event t i)) g →
    IsStableByKey (λ i. rank (event t i)) nat_cmp (operations t) g → IsRoundOrder t g
by_stable_sort t g p up stable =
    let l = lists_permuted t g p in
    record { lists = l; ranked = ranked t g l.once up (λ k d m e. ties_still_rise (λ i. i) (λ i. rank (event t i)) (operations t) g (sorted_already t) stable k d m e) }
