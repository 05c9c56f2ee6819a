-- Who reads a byte of a store, by the first store after it.
use Rattle.std.proofs.Common.{◌≡◌, ℕ, zero, suc, ◌+◌, ◌-◌, ◌<◌, ◌≤◌, ◌==◌, ◌&&◌, Bool, true, false, if◌then◌else◌, List, length, Some, None, refl, sym, ap, ◌∙◌, inl, inr, arith}
use Rattle.std.proofs.lemmas.Bool.{cases_lt}
use Rattle.std.proofs.lemmas.Bool.Decides.{nat_tests}
use Rattle.round_schedule.specs.declared.event.Event.{Event}
use Rattle.round_schedule.specs.Positions.{event, writes_at}
use Rattle.byte_sources.specs.Marks.{first_from, overwriter}
use Rattle.byte_sources.specs.Sources.{gives, is_index, last_below, sees, source}
use Rattle.byte_sources.proofs.Repeated.{last_passed}
use Rattle.byte_sources.proofs.Sourcing.{both}

-- ---- the first number that passes

differ : (b : Bool) → b ≡ true → b ≡ false → ⊥
differ b t f = cc

record IsFirst (test : ℕ → Bool) (a v : ℕ) : Type 0 where
  low : a ≤ v
  passes : test v ≡ true
  before : (k : ℕ) → a ≤ k → k < v → test k ≡ false

after_first : (test : ℕ → Bool) (a v k : ℕ) → test a ≡ false → IsFirst test (a + 1) v → a ≤ k → k < v → test k ≡ false
after_first test a v k e f l m = elim (cases_lt a k) [
  | inl n ↦ f.before k (omega (arith, n)) m
  | inr n ↦ let same : k ≡ a = omega arith in ap test same ∙ e
]

first_is : (test : ℕ → Bool) (a n v : ℕ) → first_from test a n ≡ Some v → IsFirst test a v
first_is test a zero v h = cc
first_is test a (suc n) v h = by_test test a n v (test a) refl h (first_is test (a + 1) n v)
  where
    by_test : (test : ℕ → Bool) (a n v : ℕ) (b : Bool) → test a ≡ b → (if b then Some a else first_from test (a + 1) n) ≡ Some v →
        (first_from test (a + 1) n ≡ Some v → IsFirst test (a + 1) v) → IsFirst test a v
    by_test test a n v true e h more =
        let same : a ≡ v = cc in
        record { low = omega (arith, same); passes = sym (ap test same) ∙ e; before = λ k l m. absurd (omega (arith, same, l, m)) }
    by_test test a n v false e h more =
        let f = more h in
        record { low = omega (arith, f.low); passes = f.passes; before = λ k l m. after_first test a v k e f l m }

none_is : (test : ℕ → Bool) (a n : ℕ) → first_from test a n ≡ None → (k : ℕ) → a ≤ k → k < a + n → test k ≡ false
none_is test a zero h k l m = absurd (omega (arith, l, m))
none_is test a (suc n) h k l m = by_test test a n k (test a) refl h l m (none_is test (a + 1) n)
  where
    by_test : (test : ℕ → Bool) (a n k : ℕ) (b : Bool) → test a ≡ b → (if b then Some a else first_from test (a + 1) n) ≡ None → a ≤ k → k < a + suc n →
        (first_from test (a + 1) n ≡ None → (j : ℕ) → a + 1 ≤ j → j < (a + 1) + n → test j ≡ false) → test k ≡ false
    by_test test a n k true e h l m more = cc
    by_test test a n k false e h l m more = elim (cases_lt a k) [
      | inl o ↦ more h k (omega (arith, o)) (omega (arith, m))
      | inr o ↦ let same : k ≡ a = omega arith in ap test same ∙ e
    ]

-- ---- the last number below a bound

not_equal : (n w : ℕ) → n < w → (n == w) ≡ false
not_equal n w l = grind (arith, nat_tests)

not_less : (n w : ℕ) → w < n → (n == w) ≡ false
not_less n w l = grind (arith, nat_tests)

-- it is below the bound
pub not_below : (f : ℕ → Bool) (n w : ℕ) → n ≤ w → is_index w (last_below f n) ≡ false
not_below f zero w l = refl
not_below f (suc n) w l = by_test (f n) (not_equal n w (omega (arith, l))) (not_below f n w (omega (arith, l)))
  where
    by_test : (b : Bool) → (n == w) ≡ false → is_index w (last_below f n) ≡ false → is_index w (if b then Some n else last_below f n) ≡ false
    by_test true e h = e
    by_test false e h = h

-- one that passes has none before it
above : (f : ℕ → Bool) (n v w : ℕ) → f v ≡ true → v < n → w < v → is_index w (last_below f n) ≡ false
above f zero v w e l m = absurd (omega (arith, l))
above f (suc n) v w e l m = by_test f n v w (f n) refl e l m (above f n v w e)
  where
    by_test : (f : ℕ → Bool) (n v w : ℕ) (b : Bool) → f n ≡ b → f v ≡ true → v < suc n → w < v → (v < n → w < v → is_index w (last_below f n) ≡ false) →
        is_index w (if b then Some n else last_below f n) ≡ false
    by_test f n v w true h e l m more = not_less n w (omega (arith, l, m))
    by_test f n v w false h e l m more = elim (cases_lt v n) [
      | inl o ↦ more o m
      | inr o ↦ let same : v ≡ n = omega (arith, l, o) in absurd (differ (f v) e (ap f same ∙ h))
    ]

-- where none passes between w and the bound, it is w exactly if w passes
last_is : (f : ℕ → Bool) (w d : ℕ) → ((k : ℕ) → w + 1 ≤ k → k < (w + 1) + d → f k ≡ false) → f w ≡ is_index w (last_below f ((w + 1) + d))
last_is f w d none = sym (ap (is_index w) (last_passed f (w + 1) d none) ∙ ap (λ (n : ℕ). is_index w (last_below f n)) next ∙ by_test (f w) (not_below f w w (omega arith)))
  where
    next : w + 1 ≡ suc w
    next = omega arith

    same : (w == w) ≡ true
    same = grind (arith, nat_tests)

    by_test : (b : Bool) → is_index w (last_below f w) ≡ false → is_index w (if b then Some w else last_below f w) ≡ b
    by_test true h = same
    by_test false h = h

-- ---- a byte's source

unseen : (t : List Event) (r x k : ℕ) → writes_at t k x ≡ false → gives t (event t r) x k ≡ false
unseen t r x k h = ap (λ (b : Bool). b && sees (event t r) (event t k)) h

pub source_is_below : (t : List Event) (w x r : ℕ) → r ≤ w → false ≡ is_index w (source t r x)
unfolding source
source_is_below t w x r l = sym (not_below (gives t (event t r) x) r w l)

-- an event that sees the overwriter doesn't read the store
pub source_is_above : (t : List Event) (w x r v : ℕ) → Some v ≡ overwriter t w x → v < r → sees (event t r) (event t v) ≡ true → false ≡ is_index w (source t r x)
unfolding source
source_is_above t w x r v over l seen =
    let f = first_is (λ k. writes_at t k x) (w + 1) (length t - (w + 1)) v (sym over) in
    sym (above (gives t (event t r) x) r v w (both (writes_at t v x) (sees (event t r) (event t v)) f.passes seen) l (omega (arith, f.low)))

-- nothing between them writes the byte
quiet : (t : List Event) (w x r : ℕ) → w < r → ((k : ℕ) → w + 1 ≤ k → k < r → writes_at t k x ≡ false) → gives t (event t r) x w ≡ is_index w (last_below (gives t (event t r) x) r)
quiet t w x r l none =
    let d : ℕ = r - (w + 1) in
    let e : (w + 1) + d ≡ r = omega (arith, l) in
    last_is (gives t (event t r) x) w d (λ k low high. unseen t r x k (none k low (omega (arith, high, e)))) ∙ ap (λ (n : ℕ). is_index w (last_below (gives t (event t r) x) n)) e

pub source_before : (t : List Event) (w x r v : ℕ) → Some v ≡ overwriter t w x → w < r → r ≤ v → gives t (event t r) x w ≡ is_index w (source t r x)
unfolding source
source_before t w x r v over l m =
    let f = first_is (λ k. writes_at t k x) (w + 1) (length t - (w + 1)) v (sym over) in
    quiet t w x r l (λ k low high. f.before k low (omega (arith, high, m)))

pub source_last : (t : List Event) (w x r : ℕ) → None ≡ overwriter t w x → w < r → r ≤ length t → gives t (event t r) x w ≡ is_index w (source t r x)
unfolding source
source_last t w x r over l m =
    quiet t w x r l (λ k low high. none_is (λ j. writes_at t j x) (w + 1) (length t - (w + 1)) (sym over) k low (omega (arith, high, l, m)))
