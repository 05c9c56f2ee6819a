-- The stores that a byte of a load is from.
use Rattle.std.proofs.Common.{◌≡◌, ℕ, true, List, Option, Some, None, refl, ap, arith}
use Rattle.std.proofs.lemmas.Bool.{and_parts}
use Rattle.round_schedule.specs.declared.event.Event.{Event}
use Rattle.round_schedule.specs.Accesses.{loads, stores}
use Rattle.round_schedule.specs.Positions.{event, reads_at, writes_at}
use Rattle.memory_order.specs.Operations.{is_operation}
use Rattle.memory_order.specs.Orders.{ListsOperations, order_position}
use Rattle.memory_order.specs.Rvwmo.{IsSource}
use Rattle.memory_order.proofs.Facts.{load_is_operation, store_is_operation}
use Rattle.memory_order.proofs.Placing.{same_by_positions}

pub store_at : (t : List Event) (a x : ℕ) → writes_at t a x ≡ true → is_operation (event t a) ≡ true
store_at t a x h = store_is_operation (event t a) (and_parts (stores (event t a).access) _ h).0

pub load_at : (t : List Event) (r x : ℕ) → reads_at t r x ≡ true → is_operation (event t r) ≡ true
load_at t r x h = load_is_operation (event t r) (and_parts (loads (event t r).access) _ h).0

pub one_position : (t : List Event) (g : List ℕ) (a b : ℕ) → ListsOperations t g → is_operation (event t a) ≡ true → is_operation (event t b) ≡ true → order_position g a ≡ order_position g b → a ≡ b
one_position t g a b lists ha hb e = same_by_positions g a b (lists.each a ha) (lists.each b hb) e

pub one_source : (t : List Event) (g : List ℕ) (r x : ℕ) (s u : Option ℕ) → ListsOperations t g → IsSource t (order_position g) r x s → IsSource t (order_position g) r x u → s ≡ u
one_source t g r x None None lists h k = refl
one_source t g r x None (Some w) lists h k = absurd (h w k.0)
one_source t g r x (Some w) None lists h k = absurd (k w h.0)
one_source t g r x (Some w) (Some v) lists h k =
    let a = h.1 v k.0 in
    let b = k.1 w h.0 in
    ap (λ n. Some n) (one_position t g w v lists (store_at t w x h.0.0) (store_at t v x k.0.0) (omega (arith, a, b)))
