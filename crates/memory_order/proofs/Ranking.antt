-- The inverse of an order: which list of positions the test for orders keeps.
use Rattle.std.proofs.Common.{◌≡◌, ◌≢◌, ℕ, suc, ◌+◌, ◌<◌, ◌≤◌, ◌==◌, ◌⊎◌, Bool, true, false, if◌then◌else◌, List, [], ◌∷◌, length, get_or, set, refl, sym, ap, ◌∙◌, subst, inl, inr, arith, Contains, length-set, get_or-set_same, get_or-set_other}
use Rattle.std.proofs.lemmas.Bool.{cases_eq, cases_lt, cases_order}
use Rattle.std.proofs.lemmas.Bool.Decides.{nat_tests}
use Rattle.std.proofs.lemmas.List.{get_or_default}
use Rattle.std.specs.List.{AllPairs}
use Rattle.round_schedule.specs.declared.event.Event.{Event}
use Rattle.round_schedule.specs.Positions.{event}
use Rattle.memory_order.specs.Operations.{is_operation}
use Rattle.memory_order.specs.Orders.{ListsOperations, order_position}
use Rattle.memory_order.proofs.Facts.{within}
use Rattle.memory_order.proofs.Placing.{position_found, position_of_contained}
use Rattle.memory_order.specs.Checking.{IsRanking}

absent_step : (b a : ℕ) (g : List ℕ) (t : Bool) → (b == a) ≡ t → b ≢ a → order_position g a ≡ length g → (if t then 0 else suc (order_position g a)) ≡ suc (length g)
absent_step b a g true e n h = absurd (n (grind (arith, nat_tests)))
absent_step b a g false e n h = ap suc h

-- an index that does not stand in the order is at its length
pub place_absent : (g : List ℕ) (a : ℕ) → ((k : ℕ) → k < length g → get_or g k 0 ≢ a) → order_position g a ≡ length g
place_absent [] a h = refl
place_absent (b ∷ g) a h = absent_step b a g (b == a) refl (h 0 (omega arith)) (place_absent g a (λ k l. h (suc k) (omega (arith, l))))

-- no index is past the order's length
length_step : (b a : ℕ) (g : List ℕ) (t : Bool) → order_position g a ≤ length g → (if t then 0 else suc (order_position g a)) ≤ suc (length g)
length_step b a g true h = omega arith
length_step b a g false h = omega arith

pub position_at_most : (g : List ℕ) (a : ℕ) → order_position g a ≤ length g
position_at_most [] a = omega arith
position_at_most (b ∷ g) a = length_step b a g (b == a) (position_at_most g a)

-- the list r inverts the first p entries of the order g
pub record Met (t : List Event) (g : List ℕ) (p : ℕ) (r : List ℕ) : Type 0 where
  pub len : length r ≡ length t
  pub forth : (k : ℕ) → k < p → (get_or g k 0 < length t) × (is_operation (event t (get_or g k 0)) ≡ true) × (get_or r (get_or g k 0) 0 ≡ k)
  pub back : (i : ℕ) → i < length t → (get_or r i 0 ≡ length g) ⊎ ((get_or r i 0 < p) × (get_or g (get_or r i 0) 0 ≡ i))

pub met_more : (t : List Event) (g : List ℕ) (p : ℕ) (r : List ℕ) → Met t g p r → p < length g → (i : ℕ) → get_or g p 0 ≡ i → i < length t →
    is_operation (event t i) ≡ true → get_or r i 0 ≡ length g → Met t g (p + 1) (set r i p)
met_more t g p r m l i at lt op free = record { len = length-set r i p ∙ m.len; forth = forth; back = back }
  where
    here : get_or (set r i p) i 0 ≡ p
    here = get_or-set_same r i p 0 (omega (arith, m.len, lt))

    forth : (k : ℕ) → k < p + 1 → (get_or g k 0 < length t) × (is_operation (event t (get_or g k 0)) ≡ true) × (get_or (set r i p) (get_or g k 0) 0 ≡ k)
    forth k low = elim (cases_lt k p) [
      | inl below ↦
          let old = m.forth k below in
          let other : get_or g k 0 ≢ i = λ e. let f = ap (λ n. get_or r n 0) e in omega (arith, f, old.2, free, below, l) in
          (old.0, old.1, get_or-set_other r i (get_or g k 0) p 0 other ∙ old.2)
      | inr above ↦
          let same : k ≡ p = omega arith in
          let e : get_or g k 0 ≡ i = ap (λ n. get_or g n 0) same ∙ at in
          (subst (λ n. n < length t) (sym e) lt, subst (λ n. is_operation (event t n) ≡ true) (sym e) op, ap (λ n. get_or (set r i p) n 0) e ∙ here ∙ sym same)
    ]

    back : (j : ℕ) → j < length t → (get_or (set r i p) j 0 ≡ length g) ⊎ ((get_or (set r i p) j 0 < p + 1) × (get_or g (get_or (set r i p) j 0) 0 ≡ j))
    back j low = elim (cases_eq j i) [
      | inl same ↦
          let e : get_or (set r i p) j 0 ≡ p = ap (λ n. get_or (set r i p) n 0) same ∙ here in
          inr (omega (arith, e), ap (λ n. get_or g n 0) e ∙ at ∙ sym same)
      | inr other ↦
          let e = get_or-set_other r i j p 0 other in
          elim (m.back j low) [
            | inl a ↦ inl (e ∙ a)
            | inr b ↦ inr (omega (arith, e, b.0), ap (λ n. get_or g n 0) e ∙ b.1)
          ]
    ]

-- what stands in an order a second time
pub met_twice : (t : List Event) (g : List ℕ) (p : ℕ) (r : List ℕ) → Met t g p r → p < length g → get_or g p 0 < length t →
    get_or r (get_or g p 0) 0 ≢ length g → ListsOperations t g → ⊥
met_twice t g p r m l lt n lists = elim (m.back (get_or g p 0) lt) [
  | inl e ↦ n e
  | inr e ↦ lists.once (get_or r (get_or g p 0) 0) p 0 e.0 l e.1
]

pub met_other : (t : List Event) (g : List ℕ) (p : ℕ) → p < length g → (is_operation (event t (get_or g p 0)) ≡ true → ⊥) → ListsOperations t g → ⊥
met_other t g p l n lists = n (lists.only p 0 l)

pub met_all : (t : List Event) (g r : List ℕ) → Met t g (length g) r →
    ((i : ℕ) → i < length t → is_operation (event t i) ≡ true → get_or r i 0 ≢ length g) → ListsOperations t g × IsRanking t g r
met_all t g r m none = (record { only = only; each = each; once = once }, (m.len, ranked))
  where
    only : (k d : ℕ) → k < length g → is_operation (event t (get_or g k d)) ≡ true
    only k d l = subst (λ n. is_operation (event t n) ≡ true) (get_or_default g k 0 d l) (m.forth k l).1

    each : (i : ℕ) → is_operation (event t i) ≡ true → Contains g i
    each i op = elim (m.back i (within t i op)) [
      | inl e ↦ absurd (none i (within t i op) op e)
      | inr b ↦ (get_or r i 0, b.0, get_or_default g (get_or r i 0) i 0 b.0 ∙ b.1)
    ]

    once : (i j d : ℕ) → i < j → j < length g → get_or g i d ≢ get_or g j d
    once i j d l k e =
        let a = (m.forth i (omega (arith, l, k))).2 in
        let b = (m.forth j k).2 in
        let s = ap (λ n. get_or r n 0) (get_or_default g i 0 d (omega (arith, l, k)) ∙ e ∙ get_or_default g j d 0 k) in
        omega (arith, a, b, s, l)

    ranked : (i : ℕ) → i < length t → get_or r i 0 ≡ order_position g i
    ranked i l = elim (m.back i l) [
      | inl e ↦ e ∙ sym (place_absent g i (λ k h q. let f = (m.forth k h).2 in let s = ap (λ n. get_or r n 0) q in omega (arith, f, s, e, h)))
      | inr b ↦
          let f = position_of_contained g i (get_or r i 0, b.0, get_or_default g (get_or r i 0) i 0 b.0 ∙ b.1) in
          sym (ap (λ n. get_or r n 0) f.1) ∙ (m.forth (order_position g i) f.0).2
    ]

-- an order that lists each index once has at each position the index of that position
pub position_at : (g : List ℕ) → AllPairs (λ a b. a ≢ b) g → (k : ℕ) → k < length g → order_position g (get_or g k 0) ≡ k
position_at g once k l =
    let f = position_found g (get_or g k 0) k l refl in
    elim (cases_order (order_position g (get_or g k 0)) k) [
      | inl e ↦ e
      | inr o ↦ elim o [
        | inl b ↦ absurd (once (order_position g (get_or g k 0)) k 0 b l f.1)
        | inr a ↦ absurd (once k (order_position g (get_or g k 0)) 0 a f.0 (sym f.1))
      ]
    ]

-- what stands at the position of an index is that index, if any is there
inverse_step : (b a : ℕ) (g : List ℕ) (t : Bool) → (b == a) ≡ t → (order_position g a < length g → get_or g (order_position g a) 0 ≡ a) →
    (if t then 0 else suc (order_position g a)) < suc (length g) → get_or (b ∷ g) (if t then 0 else suc (order_position g a)) 0 ≡ a
inverse_step b a g true e rest l = grind (arith, nat_tests)
inverse_step b a g false e rest l = rest (omega (arith, l))

pub place_inverse : (g : List ℕ) (a : ℕ) → order_position g a < length g → get_or g (order_position g a) 0 ≡ a
place_inverse [] a l = absurd (omega (arith, l))
place_inverse (b ∷ g) a l = inverse_step b a g (b == a) refl (place_inverse g a) l
