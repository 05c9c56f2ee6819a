-- The load value axiom by the bounds of sources.
use Rattle.std.proofs.Common.{◌≡◌, ℕ, ◌+◌, ◌-◌, ◌<◌, ◌≤◌, ◌==◌, true, List, length, get_or, Option, Some, None, sym, ap, ◌∙◌, subst, inl, inr, arith}
use Rattle.std.proofs.lemmas.Bool.{and_from, cond-false, ne_eqb}
use Rattle.pages.specs.Memory.{in_range}
use Rattle.round_schedule.specs.declared.event.Event.{Event}
use Rattle.round_schedule.specs.Accesses.{address_of, byte_written, bytes_of, loads, reads}
use Rattle.round_schedule.specs.Positions.{event, reads_at, source_byte}
use Rattle.memory_order.specs.Orders.{ListsOperations, order_position}
use Rattle.memory_order.specs.Rvwmo.{IsSource, LoadValueAxiom, MaySee}
use Rattle.memory_order.proofs.Placing.{position_of_contained}
use Rattle.memory_order.proofs.Sources.{one_source, store_at}
use Rattle.memory_order.specs.Checking.{IsLeft, IsMax, left_by}
use Rattle.memory_order.proofs.Bounding.{max_below, range_at}

-- each bound is at most the order's length
pub source_listed : (t : List Event) (g : List ℕ) (r x v : ℕ) → ListsOperations t g → IsMax (order_position g) (MaySee t (order_position g) r x) v → v ≤ length g
source_listed t g r x v lists m =
    max_below (order_position g) (MaySee t (order_position g) r x) v (length g) m (λ a h. (position_of_contained g a (lists.each a (store_at t a x h.0))).0)

-- the source by its bound
pub source_by_bound : (t : List Event) (opening : ℕ → ℕ) (g : List ℕ) (r x v : ℕ) → ListsOperations t g → IsMax (order_position g) (MaySee t (order_position g) r x) v →
    (s : Option ℕ) × IsSource t (order_position g) r x s × (source_byte t opening x s ≡ left_by t opening g x v)
source_by_bound t opening g r x v lists m = elim m.attained [
  | inl z ↦ (None, (λ w h. let u = m.upper w h in omega (arith, u, z)), ap (λ n. left_by t opening g x n) (sym z))
  | inr a ↦
      let at : get_or g (v - 1) 0 ≡ a.0 =
      ap (λ n. get_or g n 0) (let n : v - 1 ≡ order_position g a.0 = omega (arith, a.2) in n) ∙ (position_of_contained g a.0 (lists.each a.0 (store_at t a.0 x a.1.0))).1 in (
        Some a.0,
        (a.1, λ w h. let u = m.upper w h in omega (arith, u, a.2)),
        sym (cond-false (v == 0) (opening x) (byte_written (event t (get_or g (v - 1) 0)).access x) (ne_eqb v 0 (λ e. omega (arith, e, a.2)))
            ∙ ap (λ n. byte_written (event t n).access x) at),
      )
]

pub values_from_left : (t : List Event) (opening : ℕ → ℕ) (g : List ℕ) (sources : ℕ → ℕ → ℕ) → ListsOperations t g →
    ((r x : ℕ) → reads_at t r x ≡ true → IsMax (order_position g) (MaySee t (order_position g) r x) (sources r x)) →
    ((r x : ℕ) → reads_at t r x ≡ true → IsLeft t opening g r x (sources r x)) → LoadValueAxiom t opening (order_position g)
values_from_left t opening g sources lists m left r x h =
    let s = source_by_bound t opening g r x (sources r x) lists (m r x h) in
    (s.0, s.1, left r x h ∙ sym s.2)

pub left_from_values : (t : List Event) (opening : ℕ → ℕ) (g : List ℕ) (sources : ℕ → ℕ → ℕ) → ListsOperations t g →
    ((r x : ℕ) → reads_at t r x ≡ true → IsMax (order_position g) (MaySee t (order_position g) r x) (sources r x)) →
    LoadValueAxiom t opening (order_position g) → (r x : ℕ) → reads_at t r x ≡ true → IsLeft t opening g r x (sources r x)
left_from_values t opening g sources lists m axiom_holds r x h =
    let s = source_by_bound t opening g r x (sources r x) lists (m r x h) in
    let u = axiom_holds r x h in
    u.2 ∙ ap (λ n. source_byte t opening x n) (one_source t g r x u.0 s.0 lists u.1 s.1) ∙ s.2

-- ---- byte by byte

pub reads_here : (t : List Event) (r k start width : ℕ) (e : Event) → e ≡ event t r → loads e.access ≡ true → start ≡ address_of e.access → width ≡ bytes_of e.access → k < width →
    reads_at t r (start + k) ≡ true
reads_here t r k start width e is l s w low =
    ap (λ (f : Event). reads f.access (start + k)) (sym is)
    ∙ and_from (loads e.access) (in_range (address_of e.access) (bytes_of e.access) (start + k)) l
    (subst (λ n. in_range n (bytes_of e.access) (start + k) ≡ true) s (subst (λ n. in_range start n (start + k) ≡ true) w (range_at start width k low)))
