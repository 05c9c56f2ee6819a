-- Sorting the numbers of moments by their times gives the order of time.
use Rattle.std.proofs.Common.{◌≡◌, ◌≢◌, ℕ, zero, suc, ◌+◌, ◌-◌, ◌<◌, ◌≤◌, ◌==◌, List, length, get_or, sym, ap, ◌∙◌, subst, inl, inr, arith, Contains, add-zero, zero-add, All}
use Rattle.std.specs.List.{AllPairs, range_with_len}
use Rattle.std.specs.List.Sorted.{IsNonDecreasingBy, IsPermutation, IsSortedByKey, IsStableByKey, IsStrictlyIncreasing}
use Rattle.std.specs.Ordering.{nat_cmp}
use Rattle.std.proofs.lemmas.Bool.{cases_lt}
use Rattle.std.proofs.lemmas.Bool.Decides.{Decides-eqb, nat_tests}
use Rattle.std.proofs.lemmas.List.{get_or_default}
use Rattle.std.proofs.lemmas.List.FromFn.{get_or-range_with_len, length-range_with_len}
use Rattle.std.proofs.lemmas.List.Kept.{AllPairs-from_increasing}
use Rattle.std.proofs.lemmas.List.Sorted.{All-permutation, Contains-permutation, length_permutation, ties_still_rise}
use Rattle.std.proofs.lemmas.Map.Keys.{IsDistinct-IsPermutation}
use Rattle.std.proofs.lemmas.Map.Made.{AllPairs-from_IsDistinct, IsDistinct-from_AllPairs}
use Rattle.execution_moments.specs.Courses.{ComesBefore, IsSequence}

-- ---- the numbers below n

increasing : (n : ℕ) → IsStrictlyIncreasing (range_with_len 0 n)
increasing n k h =
    let l = length-range_with_len 0 n in
    let a = get_or-range_with_len 0 n k 0 (omega (arith, l, h)) in
    let b = get_or-range_with_len 0 n (k + 1) 0 (omega (arith, l, h)) in
    omega (arith, a, b)

rising : (n : ℕ) → AllPairs (λ a b. a < b) (range_with_len 0 n)
rising n = AllPairs-from_increasing (range_with_len 0 n) (increasing n)

each : (n i : ℕ) → i < n → Contains (range_with_len 0 n) i
each n i l = (i, omega (arith, length-range_with_len 0 n, l), get_or-range_with_len 0 n i i l ∙ zero-add i)

below : (n : ℕ) → All (λ i. i < n) (range_with_len 0 n)
below n i d l =
    let s = length-range_with_len 0 n in
    let a = get_or-range_with_len 0 n i d (omega (arith, l, s)) in
    omega (arith, a, l, s)

-- ---- a stable sort

same_test : (x y : ℕ) → (x == y) ≡ (y == x)
same_test x y = grind (arith, nat_tests)

distinct_permuted : (xs ys : List ℕ) → IsPermutation xs ys → AllPairs (λ a b. a ≢ b) xs → AllPairs (λ a b. a ≢ b) ys
distinct_permuted xs ys p h =
    AllPairs-from_IsDistinct Decides-eqb ys (IsDistinct-IsPermutation (λ a b. a == b) same_test xs ys p (IsDistinct-from_AllPairs Decides-eqb xs h))

once : (n : ℕ) (s : List ℕ) → IsPermutation (range_with_len 0 n) s → AllPairs (λ a b. a ≢ b) s
once n s p = distinct_permuted (range_with_len 0 n) s p (λ i j d l m e. let r = rising n i j d l m in omega arith)

-- equal keys that rise from index to index rise over any distance
ties_far : (f : ℕ → ℕ) (g : List ℕ) → IsNonDecreasingBy f g →
    ((k d : ℕ) → k + 1 < length g → f (get_or g k d) ≡ f (get_or g (k + 1) d) → get_or g k d ≤ get_or g (k + 1) d) →
    (i n : ℕ) → i + n < length g → f (get_or g i 0) ≡ f (get_or g (i + n) 0) → get_or g i 0 ≤ get_or g (i + n) 0
ties_far f g up ties i zero l e = omega (arith, ap (λ k. get_or g k 0) (add-zero i))
ties_far f g up ties i (suc n) l e =
    let s : i + suc n ≡ i + n + 1 = omega arith in
    let a = up i (i + n) 0 (omega arith) (omega arith) in
    let b = up (i + n) (i + n + 1) 0 (omega arith) (omega arith) in
    let es = ap (λ k. f (get_or g k 0)) s in
    let gs = ap (λ k. get_or g k 0) s in
    let first : f (get_or g i 0) ≡ f (get_or g (i + n) 0) = omega (arith, a, b, e, es) in
    let second : f (get_or g (i + n) 0) ≡ f (get_or g (i + n + 1) 0) = omega (arith, a, b, e, es) in
    let low = ties_far f g up ties i n (omega arith) first in
    let high = ties (i + n) 0 (omega arith) second in
    omega (arith, low, high, gs)

in_time : (f : ℕ → ℕ) (g : List ℕ) → AllPairs (λ a b. a ≢ b) g → IsNonDecreasingBy f g →
    ((k d : ℕ) → k + 1 < length g → f (get_or g k d) ≡ f (get_or g (k + 1) d) → get_or g k d ≤ get_or g (k + 1) d) →
    AllPairs (ComesBefore f) g
in_time f g differ up ties i j d l m =
    let ei = get_or_default g i d 0 (omega arith) in
    let ej = get_or_default g j d 0 m in
    subst (λ a. ComesBefore f a (get_or g j d)) (sym ei) (subst (λ b. ComesBefore f (get_or g i 0) b) (sym ej) at_zero)
  where
    at_zero : ComesBefore f (get_or g i 0) (get_or g j 0)
    at_zero = elim (cases_lt (f (get_or g i 0)) (f (get_or g j 0))) [
      | inl h ↦ inl h
      | inr h ↦
          let u = up i j 0 (omega arith) m in
          let e : f (get_or g i 0) ≡ f (get_or g j 0) = omega arith in
          let s : i + (j - i) ≡ j = omega arith in
          let n = ties_far f g up ties i (j - i) (omega arith) (e ∙ ap (λ k. f (get_or g k 0)) (sym s)) in
          let o = differ i j 0 l m in
          let q = ap (λ k. get_or g k 0) s in
          inr (e, omega (arith, n, o, q))
    ]

sorted_already : (n : ℕ) → IsSortedByKey (λ i. i) nat_cmp (range_with_len 0 n)
sorted_already n k d a b = let r = rising n k (k + 1) d (omega arith) b in grind (arith, nat_tests)

pub by_stable_sort : (f : ℕ → ℕ) (n : ℕ) (s : List ℕ) → IsPermutation (range_with_len 0 n) s → IsNonDecreasingBy f s →
    IsStableByKey f nat_cmp (range_with_len 0 n) s → IsSequence f n s
by_stable_sort f n s p up stable = record {
  count = length_permutation (range_with_len 0 n) s p ∙ length-range_with_len 0 n;
  below = All-permutation (λ i. i < n) (range_with_len 0 n) s p (below n);
  each = λ i l. Contains-permutation (range_with_len 0 n) s i p (each n i l);
  in_time = in_time f s (once n s p) up (λ k d m e. ties_still_rise (λ i. i) f (range_with_len 0 n) s (sorted_already n) stable k d m e);
}
