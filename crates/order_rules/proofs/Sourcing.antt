-- The source of a byte by its bound.
use Rattle.std.proofs.Common.{◌≡◌, ◌≢◌, ℕ, ◌+◌, ◌-◌, ◌<◌, true, List, length, get_or, Some, None, inl, inr, refl, sym, ap, ◌∙◌, subst, arith}
use Rattle.std.proofs.lemmas.Bool.{and_parts, cases_lt}
use Rattle.round_schedule.specs.declared.event.Event.{Event}
use Rattle.round_schedule.specs.Accesses.{loads}
use Rattle.round_schedule.specs.Positions.{event, reads_at}
use Rattle.memory_order.specs.Orders.{ListsOperations, order_position}
use Rattle.memory_order.specs.Rvwmo.{IsSource, MaySee}
use Rattle.memory_order.proofs.Placing.{position_of_contained}
use Rattle.memory_order.proofs.Sources.{store_at}
use Rattle.memory_order.specs.Checking.{IsMax, source_at, source_of}
use Rattle.memory_order.proofs.Sourcing.{load_within}
use Rattle.memory_order.proofs.Valuing.{source_listed}
use Rattle.order_rules.specs.Orders.{HasSources}

-- the index of a load in the order is one of the list
pub reader_within : (t : List Event) (g : List ℕ) (s : List (List ℕ)) (r x p : ℕ) → ListsOperations t g → HasSources t g s → p ≡ order_position g r → reads_at t r x ≡ true → p < length s
reader_within t g s r x p lists sourced at reads =
    let l = load_within t g r p (event t r).access lists refl at (and_parts (loads (event t r).access) _ reads).0 in
    omega (arith, l, sourced.len)

pub source_within : (t : List Event) (g : List ℕ) (s : List (List ℕ)) (r x p v : ℕ) → ListsOperations t g → HasSources t g s → p ≡ order_position g r → reads_at t r x ≡ true →
    v ≡ source_at s p x → v ≢ 0 → v - 1 < length g
source_within t g s r x p v lists sourced at reads is nonzero =
    let here : v ≡ source_of g s r x = subst (λ q. v ≡ source_at s q x) at is in
    let low = source_listed t g r x (source_of g s r x) lists (sourced.max r x reads) in
    omega (arith, low, here, nonzero)

pub is_opening : (t : List Event) (g : List ℕ) (s : List (List ℕ)) (r x p v : ℕ) → HasSources t g s → p ≡ order_position g r → reads_at t r x ≡ true →
    v ≡ source_at s p x → v ≡ 0 → IsSource t (order_position g) r x None
is_opening t g s r x p v sourced at reads is none w sees =
    let here : v ≡ source_of g s r x = subst (λ q. v ≡ source_at s q x) at is in
    let up = (sourced.max r x reads).upper w sees in
    omega (arith, up, here, none)

pub is_listed : (t : List Event) (g : List ℕ) (s : List (List ℕ)) (r x p v w : ℕ) → ListsOperations t g → HasSources t g s → p ≡ order_position g r → reads_at t r x ≡ true →
    v ≡ source_at s p x → v ≢ 0 → w ≡ get_or g (v - 1) 0 → IsSource t (order_position g) r x (Some w)
is_listed t g s r x p v w lists sourced at reads is nonzero listed =
    let here : v ≡ source_of g s r x = subst (λ q. v ≡ source_at s q x) at is in
    let m = subst (λ n. IsMax (order_position g) (MaySee t (order_position g) r x) n) (sym here) (sourced.max r x reads) in
    subst (λ n. IsSource t (order_position g) r x (Some n)) (sym listed) (by_attained m)
  where
    by_attained : IsMax (order_position g) (MaySee t (order_position g) r x) v → IsSource t (order_position g) r x (Some (get_or g (v - 1) 0))
    by_attained k = elim k.attained [
      | inl z ↦ absurd (nonzero z)
      | inr a ↦
          let at : get_or g (v - 1) 0 ≡ a.0 =
          ap (λ n. get_or g n 0) (let n : v - 1 ≡ order_position g a.0 = omega (arith, a.2) in n) ∙ (position_of_contained g a.0 (lists.each a.0 (store_at t a.0 x a.1.0))).1 in
          subst (λ n. IsSource t (order_position g) r x (Some n)) (sym at) (a.1, λ w h. let u = k.upper w h in omega (arith, u, a.2))
    ]

-- what holds of each index below one, and of it, holds below the next
pub below_next : (P : ℕ → Type 0) (n : ℕ) → ((k : ℕ) → k < n → P k) → P n → (k : ℕ) → k < n + 1 → P k
below_next P n old here k l = elim (cases_lt k n) [
  | inl low ↦ old k low
  | inr high ↦ let e : n ≡ k = omega (arith, l, high) in subst P e here
]
