-- Positions in an order that lists each memory operation once.
use Rattle.std.proofs.Common.{◌≡◌, ℕ, zero, suc, ◌<◌, ◌==◌, ◌⊎◌, Bool, true, false, if◌then◌else◌, List, [], ◌∷◌, length, get_or, refl, sym, ap, ◌∙◌, subst, inl, inr, arith, Contains}
use Rattle.std.specs.List.{AllPairs}
use Rattle.std.proofs.lemmas.Bool.{cases_lt}
use Rattle.std.proofs.lemmas.List.{get_or_default}
use Rattle.std.proofs.lemmas.Bool.Decides.{nat_tests}
use Rattle.round_schedule.specs.declared.event.Event.{Event}
use Rattle.round_schedule.specs.Positions.{event}
use Rattle.memory_order.specs.Operations.{is_operation}
use Rattle.memory_order.specs.Orders.{order_position}
use Rattle.memory_order.specs.RoundOrder.{IsRoundOrder, RanksBefore, rank}
use Rattle.memory_order.proofs.RoundOrders.{GoesByRank}

-- an index that stands in the order at k is found there or before, and what is found is that index
place_step : (b a : ℕ) (g : List ℕ) (t : Bool) → (b == a) ≡ t →
    ((k : ℕ) → k < length g → get_or g k 0 ≡ a → (order_position g a < length g) × (get_or g (order_position g a) 0 ≡ a)) →
    (k : ℕ) → k < suc (length g) → get_or (b ∷ g) k 0 ≡ a →
    ((if t then 0 else suc (order_position g a)) < suc (length g)) × (get_or (b ∷ g) (if t then 0 else suc (order_position g a)) 0 ≡ a)
place_step b a g true e rest k l h = (omega arith, grind (arith, nat_tests))
place_step b a g false e rest zero l h = absurd (grind (arith, nat_tests))
place_step b a g false e rest (suc k) l h = let r = rest k (omega arith) h in (omega (arith, r.0), r.1)

pub position_found : (g : List ℕ) (a k : ℕ) → k < length g → get_or g k 0 ≡ a → (order_position g a < length g) × (get_or g (order_position g a) 0 ≡ a)
position_found [] a k l h = absurd (omega arith)
position_found (b ∷ g) a k l h = place_step b a g (b == a) refl (position_found g a) k l h

pub position_of_contained : (g : List ℕ) (a : ℕ) → Contains g a → (order_position g a < length g) × (get_or g (order_position g a) 0 ≡ a)
position_of_contained g a h = position_found g a h.0 h.1 (get_or_default g h.0 0 a h.1 ∙ h.2)

-- what holds of each two in order holds by their positions
pub pair_by_positions : (R : ℕ → ℕ → Type 0) (g : List ℕ) (a b : ℕ) → AllPairs R g → Contains g a → Contains g b → order_position g a < order_position g b → R a b
pair_by_positions R g a b h ha hb l =
    let pa = position_of_contained g a ha in
    let pb = position_of_contained g b hb in
    let r = h (order_position g a) (order_position g b) 0 l pb.0 in
    subst (λ y. R a y) pb.1 (subst (λ x. R x (get_or g (order_position g b) 0)) pa.1 r)

pub same_by_positions : (g : List ℕ) (a b : ℕ) → Contains g a → Contains g b → order_position g a ≡ order_position g b → a ≡ b
same_by_positions g a b ha hb e = sym (position_of_contained g a ha).1 ∙ ap (λ k. get_or g k 0) e ∙ (position_of_contained g b hb).1

one_way : (m k a b : ℕ) → (m < k) ⊎ ((m ≡ k) × (a < b)) → (k < m) ⊎ ((k ≡ m) × (b < a)) → ⊥
one_way m k a b (inl x) (inl y) = omega arith
one_way m k a b (inl x) (inr y) = omega arith
one_way m k a b (inr x) (inl y) = omega arith
one_way m k a b (inr x) (inr y) = omega arith

not_itself : (m a : ℕ) → (m < m) ⊎ ((m ≡ m) × (a < a)) → ⊥
not_itself m a (inl x) = omega arith
not_itself m a (inr x) = omega arith

pub goes_by_rank : (t : List Event) (g : List ℕ) → IsRoundOrder t g → GoesByRank t (order_position g)
goes_by_rank t g o = record { rises = rises; reflects = reflects }
  where
    reflects : (a b : ℕ) → is_operation (event t a) ≡ true → is_operation (event t b) ≡ true → order_position g a < order_position g b → RanksBefore t a b
    reflects a b ha hb l = pair_by_positions (RanksBefore t) g a b o.ranked (o.lists.each a ha) (o.lists.each b hb) l

    rises : (a b : ℕ) → is_operation (event t a) ≡ true → is_operation (event t b) ≡ true → RanksBefore t a b → order_position g a < order_position g b
    rises a b ha hb r = elim (cases_lt (order_position g a) (order_position g b)) [
      | inl l ↦ l
      | inr n ↦ elim (cases_lt (order_position g b) (order_position g a)) [
        | inl l ↦ absurd (one_way (rank (event t a)) (rank (event t b)) a b r (reflects b a hb ha l))
        | inr m ↦
            let e : a ≡ b = same_by_positions g a b (o.lists.each a ha) (o.lists.each b hb) (omega arith) in
            absurd (not_itself (rank (event t b)) b (subst (λ k. RanksBefore t k b) e r))
      ]
    ]
