-- The bounds of the stores that a byte of a load may be from.
use Rattle.std.proofs.Common.{◌≡◌, ◌≢◌, ℕ, ◌+◌, ◌%◌, ◌<◌, ◌≤◌, ◌==◌, ◌&&◌, max, true, if◌then◌else◌, List, length, get_or, slice_index, sym, ap, ◌∙◌, subst, inl, inr, arith}
use Rattle.std.proofs.lemmas.Bool.{and_from, and_parts, cases_lt, eq-eqb}
use Rattle.std.proofs.lemmas.Bool.Decides.{nat_tests}
use Rattle.round_schedule.specs.declared.event.Event.{Event}
use Rattle.round_schedule.specs.declared.access.Access.{Access}
use Rattle.round_schedule.specs.Accesses.{loads, reads, writes}
use Rattle.round_schedule.specs.Positions.{ProgramBefore, event, reads_at, writes_at}
use Rattle.memory_order.specs.Operations.{is_operation}
use Rattle.memory_order.specs.Orders.{ListsOperations, order_position}
use Rattle.memory_order.specs.Rvwmo.{MaySee}
use Rattle.memory_order.proofs.Facts.{load_is_operation}
use Rattle.memory_order.proofs.Placing.{position_of_contained}
use Rattle.memory_order.proofs.Sources.{load_at, one_position, store_at}
use Rattle.memory_order.specs.Checking.{Below, Earlier, IsMax, OwnWrite, row_of, source_at, source_of}
use Rattle.memory_order.specs.CheckingProgram.{RespectsOverlap}
use Rattle.memory_order.proofs.Ranking.{place_inverse}
use Rattle.memory_order.proofs.Bounding.{below_max, below_step, earlier_step, max_below, max_join}

pub same_number : (a b : ℕ) → (a == b) ≡ true → a ≡ b
same_number a b h = grind (arith, nat_tests)

-- ---- along the program: the stores of each hart to each byte

abbrev pub OwnStores : List Event → (ℕ → ℕ) → ℕ → (ℕ → ℕ → ℕ) → Type 0
OwnStores t pos i own = (h x : ℕ) → IsMax pos (Earlier (λ f. writes f.access x) t h i) (own h x)

pub own_step : (t : List Event) (pos : ℕ → ℕ) (i next : ℕ) (e : Event) (old new : ℕ → ℕ → ℕ) → e ≡ event t i → next ≡ pos i + 1 →
    ((h x : ℕ) → new h x ≡ (if h == e.hart && writes e.access x then max (old h x) next else old h x)) → OwnStores t pos i old → OwnStores t pos (i + 1) new
own_step t pos i next e old new is at set own h x =
    subst (IsMax pos (Earlier (λ f. writes f.access x) t h (i + 1))) (sym (set h x))
    (earlier_step (λ f. writes f.access x) t pos h i (old h x) next (h == e.hart && writes e.access x) to from (λ _. at) (own h x))
  where
    to : (h == e.hart && writes e.access x) ≡ true → ((event t i).hart ≡ h) × (writes (event t i).access x ≡ true)
    to r =
        let p = and_parts (h == e.hart) (writes e.access x) r in
        (ap (λ (f : Event). f.hart) (sym is) ∙ sym (same_number h e.hart p.0), ap (λ (f : Event). writes f.access x) (sym is) ∙ p.1)

    from : (event t i).hart ≡ h → writes (event t i).access x ≡ true → (h == e.hart && writes e.access x) ≡ true
    from s w = and_from (h == e.hart) (writes e.access x) (eq-eqb h e.hart (sym s ∙ ap (λ (f : Event). f.hart) (sym is))) (ap (λ (f : Event). writes f.access x) is ∙ w)

-- the loads before index i have their bounds, and the others none
pub record Noted (t : List Event) (pos : ℕ → ℕ) (i : ℕ) (sources : ℕ → ℕ → ℕ) : Type 0 where
  pub noted : (r x : ℕ) → reads_at t r x ≡ true → r < i → IsMax pos (OwnWrite t r x) (sources r x)
  pub rest : (r x : ℕ) → i ≤ r → sources r x ≡ 0

pub noted_none : (t : List Event) (pos : ℕ → ℕ) (sources : ℕ → ℕ → ℕ) → ((r x : ℕ) → sources r x ≡ 0) → Noted t pos 0 sources
noted_none t pos sources z = record { noted = λ r x h l. absurd (omega (arith, l)); rest = λ r x l. z r x }

pub noted_step : (t : List Event) (pos : ℕ → ℕ) (i : ℕ) (e : Event) (own old new : ℕ → ℕ → ℕ) → e ≡ event t i →
    ((r x : ℕ) → r ≢ i → new r x ≡ old r x) → ((x : ℕ) → reads e.access x ≡ true → new i x ≡ max (old i x) (own e.hart x)) →
    OwnStores t pos i own → Noted t pos i old → Noted t pos (i + 1) new
noted_step t pos i e own old new is kept set stores was = record { noted = noted; rest = rest }
  where
    here : (r x : ℕ) → reads_at t r x ≡ true → r ≡ i → IsMax pos (OwnWrite t r x) (new r x)
    here r x h s =
        let f : e ≡ event t r = is ∙ ap (event t) (sym s) in
        let z = was.rest r x (omega (arith, s)) in
        let m : new r x ≡ max (old r x) (own e.hart x) = subst (λ k. new k x ≡ max (old k x) (own e.hart x)) (sym s) (set x (ap (λ (d : Event). reads d.access x) f ∙ h)) in
        let n : new r x ≡ own (event t r).hart x = (let k : max (old r x) (own e.hart x) ≡ own e.hart x = omega (arith, z) in m ∙ k ∙ ap (λ (d : Event). own d.hart x) f) in
        subst (IsMax pos (OwnWrite t r x)) (sym n) (subst (λ k. IsMax pos (Earlier (λ d. writes d.access x) t (event t r).hart k) (own (event t r).hart x)) (sym s) (stores (event t r).hart x))

    noted : (r x : ℕ) → reads_at t r x ≡ true → r < i + 1 → IsMax pos (OwnWrite t r x) (new r x)
    noted r x h l = elim (cases_lt r i) [
      | inl b ↦ subst (IsMax pos (OwnWrite t r x)) (sym (kept r x (λ s. omega (arith, s, b)))) (was.noted r x h b)
      | inr b ↦ here r x h (omega (arith, l, b))
    ]

    rest : (r x : ℕ) → i + 1 ≤ r → new r x ≡ 0
    rest r x l = kept r x (λ s. omega (arith, s, l)) ∙ was.rest r x (omega (arith, l))

-- what the test of a store's bytes says
pub respected_here : (t : List Event) (pos : ℕ → ℕ) (i p : ℕ) (e : Event) (own : ℕ → ℕ → ℕ) → e ≡ event t i → p ≡ pos i → OwnStores t pos i own →
    ((x : ℕ) → writes e.access x ≡ true → own e.hart x ≤ p) → (a x : ℕ) → ProgramBefore t a i → writes_at t a x ≡ true → writes_at t i x ≡ true → pos a < pos i
respected_here t pos i p e own is at stores test a x before wa wi =
    let l = test x (ap (λ (d : Event). writes d.access x) is ∙ wi) in
    let u = below_max pos (Earlier (λ d. writes d.access x) t e.hart i) (own e.hart x) p (stores e.hart x) l a (before.earlier, before.same_hart ∙ ap (λ (d : Event). d.hart) (sym is), wa) in
    omega (arith, u, at)

pub test_from_respected : (t : List Event) (pos : ℕ → ℕ) (i p : ℕ) (e : Event) (own : ℕ → ℕ → ℕ) → e ≡ event t i → p ≡ pos i → OwnStores t pos i own →
    RespectsOverlap t pos → (x : ℕ) → writes e.access x ≡ true → own e.hart x ≤ p
test_from_respected t pos i p e own is at stores kept x w =
    max_below pos (Earlier (λ d. writes d.access x) t e.hart i) (own e.hart x) p (stores e.hart x)
    (λ a q. let k = kept a i x (record { earlier = q.0; same_hart = q.1 ∙ ap (λ (d : Event). d.hart) is }) q.2 (sym (ap (λ (d : Event). writes d.access x) is) ∙ w) in omega (arith, k, at))

-- ---- the list of sources

pub load_within : (t : List Event) (g : List ℕ) (i p : ℕ) (a : Access) → ListsOperations t g → a ≡ (event t i).access → p ≡ order_position g i → loads a ≡ true → p < length g
load_within t g i p a lists is at l =
    let op = load_is_operation (event t i) (ap loads (sym is) ∙ l) in
    let here = position_of_contained g i (lists.each i op) in
    omega (arith, at, here.0)

-- where the row of one position is written, the other operations keep theirs
pub others_stay : (t : List Event) (g : List ℕ) (i p : ℕ) (a : Access) (old new : List (List ℕ)) → ListsOperations t g → a ≡ (event t i).access → p ≡ order_position g i →
    ((q : ℕ) → (loads a ≡ true → q ≢ p) → row_of new q ≡ row_of old q) → (r x : ℕ) → r ≢ i → source_of g new r x ≡ source_of g old r x
others_stay t g i p a old new lists is at same r x n = ap (λ (w : List ℕ). slice_index w (x % 8)) (same (order_position g r) (λ l e. n (other l e)))
  where
    other : loads a ≡ true → order_position g r ≡ p → r ≡ i
    other l e =
        let op = load_is_operation (event t i) (ap loads (sym is) ∙ l) in
        let here = position_of_contained g i (lists.each i op) in
        let q : order_position g r ≡ order_position g i = e ∙ at in
        sym (place_inverse g r (omega (arith, q, here.0))) ∙ ap (λ k. get_or g k 0) q ∙ here.1

pub here_raised : (g : List ℕ) (i p h k : ℕ) (a : Access) (old new : List (List ℕ)) (from : ℕ → ℕ → ℕ) → p ≡ order_position g i → k ≡ h →
    ((x : ℕ) → reads a x ≡ true → source_at new p x ≡ max (source_at old p x) (from k x)) →
    (x : ℕ) → reads a x ≡ true → source_of g new i x ≡ max (source_of g old i x) (from h x)
here_raised g i p h k a old new from at hart set x r =
    subst (λ q. source_at new q x ≡ max (source_at old q x) (from h x)) at
    (subst (λ n. source_at new p x ≡ max (source_at old p x) (from n x)) hart (set x r))

-- ---- along the order: all stores to each byte

abbrev pub SeenStores : List Event → (ℕ → ℕ) → ℕ → (ℕ → ℕ) → Type 0
SeenStores t pos p seen = (x : ℕ) → IsMax pos (Below (λ f. writes f.access x) t pos p) (seen x)

pub seen_step : (t : List Event) (g : List ℕ) (i p next : ℕ) (e : Event) (old new : ℕ → ℕ) → ListsOperations t g → e ≡ event t i → is_operation (event t i) ≡ true → order_position g i ≡ p → next ≡ p + 1 →
    ((x : ℕ) → new x ≡ (if writes e.access x then max (old x) next else old x)) → SeenStores t (order_position g) p old → SeenStores t (order_position g) (p + 1) new
seen_step t g i p next e old new lists is op at n set seen x =
    subst (IsMax (order_position g) (Below (λ f. writes f.access x) t (order_position g) (p + 1))) (sym (set x))
    (below_step (λ f. writes f.access x) t (order_position g) i p (old x) next (writes e.access x) (ap (λ (f : Event). writes f.access x) (sym is)) at n
    (λ a w s. one_position t g a i lists (store_at t a x w) op (s ∙ sym at)) (seen x))

-- the loads below position p have all their bounds, and the others those of their own hart
pub record Sourced (t : List Event) (g : List ℕ) (p : ℕ) (sources : ℕ → ℕ → ℕ) : Type 0 where
  pub noted : (r x : ℕ) → reads_at t r x ≡ true → order_position g r < p → IsMax (order_position g) (MaySee t (order_position g) r x) (sources r x)
  pub rest : (r x : ℕ) → reads_at t r x ≡ true → p ≤ order_position g r → IsMax (order_position g) (OwnWrite t r x) (sources r x)

may_join : (t : List Event) (pos : ℕ → ℕ) (r x u v : ℕ) → IsMax pos (OwnWrite t r x) u → IsMax pos (Below (λ f. writes f.access x) t pos (pos r)) v → IsMax pos (MaySee t pos r x) (max u v)
may_join t pos r x u v own seen =
    max_join pos (OwnWrite t r x) (Below (λ f. writes f.access x) t pos (pos r)) (MaySee t pos r x) u v
    (λ a o. (o.2, inr (record { earlier = o.0; same_hart = o.1 })))
    (λ a b. (b.0, inl b.1))
    (λ a m. elim m.1 [ inl l ↦ inr (m.0, l) | inr q ↦ inl (q.earlier, q.same_hart, m.0) ])
    own seen

pub sourced_step : (t : List Event) (g : List ℕ) (i p : ℕ) (e : Event) (seen : ℕ → ℕ) (old new : ℕ → ℕ → ℕ) → ListsOperations t g → e ≡ event t i → is_operation (event t i) ≡ true → order_position g i ≡ p →
    ((r x : ℕ) → r ≢ i → new r x ≡ old r x) → ((x : ℕ) → reads e.access x ≡ true → new i x ≡ max (old i x) (seen x)) →
    SeenStores t (order_position g) p seen → Sourced t g p old → Sourced t g (p + 1) new
sourced_step t g i p e seen old new lists is op at kept set stores was = record { noted = noted; rest = rest }
  where
    apart : (r : ℕ) → order_position g r ≢ p → r ≢ i
    apart r n s = n (ap (order_position g) s ∙ at)

    noted : (r x : ℕ) → reads_at t r x ≡ true → order_position g r < p + 1 → IsMax (order_position g) (MaySee t (order_position g) r x) (new r x)
    noted r x h l = elim (cases_lt (order_position g r) p) [
      | inl b ↦ subst (IsMax (order_position g) (MaySee t (order_position g) r x)) (sym (kept r x (apart r (λ s. omega (arith, s, b))))) (was.noted r x h b)
      | inr b ↦
          let q : order_position g r ≡ p = omega (arith, l, b) in
          let s : r ≡ i = one_position t g r i lists (load_at t r x h) op (q ∙ sym at) in
          let m : new r x ≡ max (old r x) (seen x) = subst (λ k. new k x ≡ max (old k x) (seen x)) (sym s) (set x (ap (λ (d : Event). reads d.access x) (is ∙ ap (event t) (sym s)) ∙ h)) in
          subst (IsMax (order_position g) (MaySee t (order_position g) r x)) (sym m)
          (may_join t (order_position g) r x (old r x) (seen x) (was.rest r x h b) (subst (λ k. IsMax (order_position g) (Below (λ f. writes f.access x) t (order_position g) k) (seen x)) (sym q) (stores x)))
    ]

    rest : (r x : ℕ) → reads_at t r x ≡ true → p + 1 ≤ order_position g r → IsMax (order_position g) (OwnWrite t r x) (new r x)
    rest r x h l = subst (IsMax (order_position g) (OwnWrite t r x)) (sym (kept r x (apart r (λ s. omega (arith, s, l))))) (was.rest r x h (omega (arith, l)))
