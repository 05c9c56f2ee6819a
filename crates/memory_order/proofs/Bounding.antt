-- Bounds of positions: maxima over the indexes that a predicate holds of, and the maps that keep them.
use Rattle.std.proofs.Common.{◌≡◌, ℕ, ◌+◌, ◌<◌, ◌≤◌, ◌==◌, ◌&&◌, max, ◌⊎◌, List, Bool, true, false, if◌then◌else◌, Option, Some, unwrap_or, refl, sym, ap, ◌∙◌, subst, inl, inr, arith}
use Rattle.std.proofs.lemmas.Bool.{cases_eq, cases_lt}
use Rattle.std.proofs.lemmas.Bool.Decides.{nat_tests}
use Rattle.std.specs.BTreeMap.{is_at}
use Rattle.pages.specs.Memory.{in_range}
use Rattle.round_schedule.specs.declared.event.Event.{Event}
use Rattle.round_schedule.specs.Positions.{event}
use Rattle.memory_order.specs.Checking.{Below, Earlier, IsMax, pair_cmp}

pub pair_at : (a b h x : ℕ) → is_at (pair_cmp (a, b)) (h, x) ≡ (h == a && x == b)
pair_at a b h x = grind (arith, nat_tests)

by_test : (t : Bool) (old raised v : ℕ) (look : Option ℕ) (test : Bool) → test ≡ t → old ≡ unwrap_or look 0 → (t ≡ true → raised ≡ max old v) →
    unwrap_or (if test then Some raised else look) 0 ≡ (if t then max old v else old)
by_test true old raised v look true e o r = r refl
by_test true old raised v look false e o r = cc
by_test false old raised v look true e o r = cc
by_test false old raised v look false e o r = sym o

-- what a second insertion at an index puts there
pub put_back : (b : Bool) (o v w n m : Option ℕ) → m ≡ (if b then o else n) → n ≡ (if b then v else w) → m ≡ (if b then o else w)
put_back true o v w n m p q = p
put_back false o v w n m p q = p ∙ q

pub range_last : (address k x : ℕ) → in_range address (k + 1) x ≡ true → (in_range address k x ≡ true) ⊎ (address + k ≡ x)
range_last address k x h = elim (cases_eq (address + k) x) [
  | inl same ↦ inr same
  | inr other ↦ inl (grind (arith, nat_tests))
]

pub range_at : (address width k : ℕ) → k < width → in_range address width (address + k) ≡ true
range_at address width k l = grind (arith, nat_tests)

-- ---- maxima

pub below_max : (pos : ℕ → ℕ) (P : ℕ → Type 0) (v m : ℕ) → IsMax pos P v → v ≤ m → (a : ℕ) → P a → pos a < m
below_max pos P v m x l a p = let u = x.upper a p in omega (arith, u, l)

pub max_below : (pos : ℕ → ℕ) (P : ℕ → Type 0) (v m : ℕ) → IsMax pos P v → ((a : ℕ) → P a → pos a < m) → v ≤ m
max_below pos P v m x h = elim x.attained [
  | inl z ↦ omega (arith, z)
  | inr s ↦ let l = h s.0 s.1 in omega (arith, l, s.2)
]

pub max_none : (pos : ℕ → ℕ) (P : ℕ → Type 0) → ((a : ℕ) → P a → ⊥) → IsMax pos P 0
max_none pos P none = record { upper = λ a p. absurd (none a p); attained = inl refl }

pub max_one : (pos : ℕ → ℕ) (i next : ℕ) → next ≡ pos i + 1 → IsMax pos (λ a. a ≡ i) next
max_one pos i next e = record { upper = λ a s. let p = ap pos s in omega (arith, e, p); attained = inr (i, refl, sym e) }

pub max_alike : (pos : ℕ → ℕ) (P Q : ℕ → Type 0) (v : ℕ) → ((a : ℕ) → P a → Q a) → ((a : ℕ) → Q a → P a) → IsMax pos P v → IsMax pos Q v
max_alike pos P Q v to from x = record {
  upper = λ a q. x.upper a (from a q);
  attained = elim x.attained [ inl z ↦ inl z | inr s ↦ inr (s.0, to s.0 s.1, s.2) ];
}

pub max_join : (pos : ℕ → ℕ) (P Q R : ℕ → Type 0) (u v : ℕ) → ((a : ℕ) → P a → R a) → ((a : ℕ) → Q a → R a) → ((a : ℕ) → R a → P a ⊎ Q a) →
    IsMax pos P u → IsMax pos Q v → IsMax pos R (max u v)
max_join pos P Q R u v left right split x y = record { upper = upper; attained = attained }
  where
    upper : (a : ℕ) → R a → pos a < max u v
    upper a r = elim (split a r) [
      | inl p ↦ let l = x.upper a p in omega (arith, l)
      | inr q ↦ let l = y.upper a q in omega (arith, l)
    ]

    attained : (max u v ≡ 0) ⊎ ((a : ℕ) × R a × (pos a + 1 ≡ max u v))
    attained = elim (cases_lt u v) [
      | inl l ↦ elim y.attained [
        | inl z ↦ absurd (omega (arith, l, z))
        | inr s ↦ inr (s.0, right s.0 s.1, omega (arith, s.2, l))
      ]
      | inr l ↦ elim x.attained [
        | inl z ↦ inl (omega (arith, l, z))
        | inr s ↦ inr (s.0, left s.0 s.1, omega (arith, s.2, l))
      ]
    ]

-- a union where the test passes, and one of the two where not
pub max_join_if : (pos : ℕ → ℕ) (P Q R : ℕ → Type 0) (u v : ℕ) (r : Bool) → ((a : ℕ) → P a → R a) → (r ≡ true → (a : ℕ) → Q a → R a) →
    ((a : ℕ) → R a → P a ⊎ (Q a × (r ≡ true))) → IsMax pos P u → (r ≡ true → IsMax pos Q v) → IsMax pos R (if r then max u v else u)
max_join_if pos P Q R u v true left right split x y =
    max_join pos P Q R u v left (right refl) (λ a h. elim (split a h) [ inl p ↦ inl p | inr q ↦ inr q.0 ]) x (y refl)
max_join_if pos P Q R u v false left right split x y =
    max_alike pos P R u left (λ a h. elim (split a h) [ inl p ↦ p | inr q ↦ let f = q.1 in absurd (cc) ]) x

-- ---- the events before an index of the trace, on one hart, that pass a test

pub earlier_none : (q : Event → Bool) (t : List Event) (pos : ℕ → ℕ) (h : ℕ) → IsMax pos (Earlier q t h 0) 0
earlier_none q t pos h = max_none pos (Earlier q t h 0) (λ a p. omega (arith, p.0))

pub earlier_step : (q : Event → Bool) (t : List Event) (pos : ℕ → ℕ) (h i v next : ℕ) (r : Bool) → (r ≡ true → ((event t i).hart ≡ h) × (q (event t i) ≡ true)) →
    ((event t i).hart ≡ h → q (event t i) ≡ true → r ≡ true) → (r ≡ true → next ≡ pos i + 1) →
    IsMax pos (Earlier q t h i) v → IsMax pos (Earlier q t h (i + 1)) (if r then max v next else v)
earlier_step q t pos h i v next r to from at x =
    max_join_if pos (Earlier q t h i) (λ a. a ≡ i) (Earlier q t h (i + 1)) v next r
    (λ a p. (omega (arith, p.0), p.1, p.2))
    (λ e a s. subst (Earlier q t h (i + 1)) (sym s) (omega arith, (to e).0, (to e).1))
    (λ a p. elim (cases_lt a i) [
      | inl l ↦ inl (l, p.1, p.2)
      | inr l ↦
          let s : a ≡ i = omega (arith, l, p.0) in
          inr (s, from (sym (ap (λ n. (event t n).hart) s) ∙ p.1) (sym (ap (λ n. q (event t n)) s) ∙ p.2))
    ])
    x (λ e. max_one pos i next (at e))

-- ---- the events below a position of the order that pass a test

pub below_none : (q : Event → Bool) (t : List Event) (pos : ℕ → ℕ) → IsMax pos (Below q t pos 0) 0
below_none q t pos = max_none pos (Below q t pos 0) (λ a p. omega (arith, p.1))

pub below_step : (q : Event → Bool) (t : List Event) (pos : ℕ → ℕ) (i p v next : ℕ) (r : Bool) → q (event t i) ≡ r → pos i ≡ p → next ≡ p + 1 →
    ((a : ℕ) → q (event t a) ≡ true → pos a ≡ p → a ≡ i) → IsMax pos (Below q t pos p) v → IsMax pos (Below q t pos (p + 1)) (if r then max v next else v)
below_step q t pos i p v next r test at n one x =
    max_join_if pos (Below q t pos p) (λ a. a ≡ i) (Below q t pos (p + 1)) v next r
    (λ a b. (b.0, omega (arith, b.1)))
    (λ e a s. (ap (λ k. q (event t k)) s ∙ test ∙ e, let f = ap pos s in omega (arith, f, at)))
    (λ a b. elim (cases_lt (pos a) p) [
      | inl l ↦ inl (b.0, l)
      | inr l ↦
          let s : a ≡ i = one a b.0 (omega (arith, l, b.1)) in
          inr (s, sym test ∙ sym (ap (λ k. q (event t k)) s) ∙ b.0)
    ])
    x (λ e. max_one pos i next (omega (arith, n, at)))
