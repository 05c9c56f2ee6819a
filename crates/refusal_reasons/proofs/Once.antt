-- Orders that list each memory operation once.
use Rattle.std.proofs.Common.{◌≡◌, ◌≢◌, ℕ, ◌+◌, ◌<◌, ◌≤◌, ◌⊎◌, true, List, length, get_or, set, refl, sym, ap, ◌∙◌, subst, inl, inr, arith, Contains, length-set, get_or-set_same, get_or-set_other}
use Rattle.std.proofs.lemmas.Bool.{cases_eq, cases_lt}
use Rattle.std.proofs.lemmas.List.{get_or_default}
use Rattle.round_schedule.specs.declared.event.Event.{Event}
use Rattle.round_schedule.specs.Positions.{event}
use Rattle.memory_order.specs.Operations.{is_operation}
use Rattle.memory_order.specs.Orders.{ListsOperations}
use Rattle.memory_order.proofs.Facts.{within}
use Rattle.refusal_reasons.specs.Listing.{AreFirstPositions}
use Rattle.refusal_reasons.specs.Reasons.{IsTwice}

pub lists_from : (t : List Event) (g : List ℕ) → ((p : ℕ) → p < length g → is_operation (event t (get_or g p 0)) ≡ true) →
    ((i j : ℕ) → i < j → j < length g → get_or g i 0 ≢ get_or g j 0) → ((i : ℕ) → i < length t → is_operation (event t i) ≡ true → Contains g i) → ListsOperations t g
lists_from t g only once each = record {
  only = λ k d l. subst (λ n. is_operation (event t n) ≡ true) (get_or_default g k 0 d l) (only k l);
  each = λ i op. each i (within t i op) op;
  once = λ i j d l k e. once i j l k (get_or_default g i 0 d (omega (arith, l, k)) ∙ e ∙ get_or_default g j d 0 k);
}

-- ---- the first position of each index

pub firsts_set : (t : List Event) (g r : List ℕ) (p i : ℕ) → AreFirstPositions t g p r → p < length g → get_or g p 0 ≡ i → i < length t → get_or r i 0 ≡ length g →
    AreFirstPositions t g (p + 1) (set r i p)
firsts_set t g r p i m l at low free = record { size = length-set r i p ∙ m.size; there = there; first = first }
  where
    here : get_or (set r i p) i 0 ≡ p
    here = get_or-set_same r i p 0 (omega (arith, m.size, low))

    there : (a : ℕ) → a < length t → (get_or (set r i p) a 0 ≡ length g) ⊎ ((get_or (set r i p) a 0 < p + 1) × (get_or g (get_or (set r i p) a 0) 0 ≡ a))
    there a k = elim (cases_eq a i) [
      | inl same ↦
          let e : get_or (set r i p) a 0 ≡ p = ap (λ n. get_or (set r i p) n 0) same ∙ here in
          inr (omega (arith, e), ap (λ n. get_or g n 0) e ∙ at ∙ sym same)
      | inr other ↦
          let e = get_or-set_other r i a p 0 other in
          elim (m.there a k) [
            | inl b ↦ inl (e ∙ b)
            | inr b ↦ inr (omega (arith, e, b.0), ap (λ n. get_or g n 0) e ∙ b.1)
          ]
    ]

    first : (k : ℕ) → k < p + 1 → get_or (set r i p) (get_or g k 0) 0 ≤ k
    first k low = elim (cases_lt k p) [
      | inl below ↦
          let old = m.first k below in
          let other : get_or g k 0 ≢ i = λ e. let f = ap (λ n. get_or r n 0) e in omega (arith, f, old, free, below, l) in
          let e = get_or-set_other r i (get_or g k 0) p 0 other in
          omega (arith, e, old)
      | inr above ↦
          let same : k ≡ p = omega (arith, low, above) in
          let e : get_or (set r i p) (get_or g k 0) 0 ≡ p = ap (λ n. get_or (set r i p) n 0) (ap (λ n. get_or g n 0) same ∙ at) ∙ here in
          omega (arith, e, same)
    ]

pub firsts_stay : (t : List Event) (g r : List ℕ) (p i : ℕ) → AreFirstPositions t g p r → get_or g p 0 ≡ i → i < length t → get_or r i 0 ≢ length g →
    AreFirstPositions t g (p + 1) r
firsts_stay t g r p i m at low taken = record {
  size = m.size;
  there = λ a k. elim (m.there a k) [ inl b ↦ inl b | inr b ↦ inr (omega (arith, b.0), b.1) ];
  first = λ k l. elim (cases_lt k p) [
    | inl below ↦ m.first k below
    | inr above ↦
        let same : k ≡ p = omega (arith, l, above) in
        let e : get_or r (get_or g k 0) 0 ≡ get_or r i 0 = ap (λ n. get_or r n 0) (ap (λ n. get_or g n 0) same ∙ at) in
        elim (m.there i low) [
          | inl b ↦ absurd (taken b)
          | inr b ↦ omega (arith, e, b.0, same)
        ]
  ];
}

-- an index whose first position is another one
pub stands_twice : (t : List Event) (g r : List ℕ) (p : ℕ) → AreFirstPositions t g (length g) r → p < length g → get_or g p 0 < length t → get_or r (get_or g p 0) 0 ≢ p → IsTwice g (get_or g p 0)
stands_twice t g r p m l low other =
    let f = m.first p l in
    elim (m.there (get_or g p 0) low) [
      | inl e ↦ absurd (omega (arith, e, f, l))
      | inr e ↦ (get_or r (get_or g p 0) 0, p, omega (arith, f, other), l, e.1, refl)
    ]
