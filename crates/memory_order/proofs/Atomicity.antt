-- The atomicity axiom by the latest stores to each byte.
use Rattle.std.proofs.Common.{◌≡◌, ◌≢◌, ℕ, ◌+◌, ◌<◌, ◌≤◌, ◌==◌, ◌&&◌, ◌||◌, max, Bool, true, false, if◌then◌else◌, List, length, get_or, Option, Some, None, refl, sym, ap, ◌∙◌, subst, inl, inr, arith}
use Rattle.std.proofs.lemmas.Bool.{and_parts, cases_Bool, cases_eq, cases_lt, cond-false, cond-true, eq-eqb, ne_eqb}
use Rattle.pages.specs.Memory.{in_range}
use Rattle.round_schedule.specs.declared.access.Access.{Access}
use Rattle.round_schedule.specs.declared.access.Access.TheVariants.{Load, Store, LoadReserved, StoreConditional, Atomic, Fence}
use Rattle.round_schedule.specs.declared.event.Event.{Event}
use Rattle.round_schedule.specs.Accesses.{address_of, bytes_of, is_lr, is_sc, loads, stores, writes}
use Rattle.round_schedule.specs.Positions.{event, reads_at, writes_at}
use Rattle.memory_order.specs.Operations.{is_operation}
use Rattle.memory_order.specs.Orders.{ListsOperations, order_position}
use Rattle.memory_order.specs.Rvwmo.{AtomicityAxiom, IsPaired, IsSource, IsUndisturbed, MaySee}
use Rattle.memory_order.proofs.Facts.{store_is_operation}
use Rattle.memory_order.proofs.Placing.{position_of_contained}
use Rattle.memory_order.proofs.Sources.{one_position, store_at}
use Rattle.memory_order.specs.declared.checking.latest.Latest.{Latest}
use Rattle.memory_order.specs.Checking.{Below, IsMax}
use Rattle.memory_order.specs.CheckingAtomic.{AtomicAt, IsLatestStore, OthersBelow, after_store, no_store, others_of}
use Rattle.memory_order.proofs.Bounding.{below_none, below_step, max_alike, max_below, max_none}
use Rattle.memory_order.proofs.Valuing.{source_by_bound}

-- ---- the latest stores

pub latest_none : (t : List Event) (pos : ℕ → ℕ) (x : ℕ) → IsLatestStore t pos 0 x no_store
latest_none t pos x = record {
  last = below_none (λ e. writes e.access x) t pos;
  owner = λ a w l e. absurd (omega (arith, l));
  other = max_none pos (OthersBelow t pos 0 x 0) (λ a o. omega (arith, o.2));
}

pub others_max : (t : List Event) (pos : ℕ → ℕ) (p x h : ℕ) (l : Latest) → IsLatestStore t pos p x l → IsMax pos (OthersBelow t pos p x h) (others_of l h)
others_max t pos p x h l s = elim (cases_eq l.owner h) [
  | inl same ↦
      subst (IsMax pos (OthersBelow t pos p x h)) (sym (cond-true (l.owner == h) l.other l.last (eq-eqb l.owner h same)))
      (subst (λ k. IsMax pos (OthersBelow t pos p x k) l.other) same s.other)
  | inr other ↦
      subst (IsMax pos (OthersBelow t pos p x h)) (sym (cond-false (l.owner == h) l.other l.last (ne_eqb l.owner h other)))
      (record {
        upper = λ a o. s.last.upper a (o.0, o.2);
        attained = elim s.last.attained [
          | inl z ↦ inl z
          | inr a ↦ inr (a.0, (a.1.0, (λ e. other (sym (s.owner a.0 a.1.0 a.1.1 a.2) ∙ e)), a.1.1), a.2)
        ];
      })
]

-- a store of the hart itself, or what is no store to the byte, leaves the stores of the others
others_stay : (t : List Event) (g : List ℕ) (i p x h v : ℕ) → ListsOperations t g → is_operation (event t i) ≡ true → order_position g i ≡ p →
    (writes_at t i x ≡ true → (event t i).hart ≢ h → ⊥) → IsMax (order_position g) (OthersBelow t (order_position g) p x h) v → IsMax (order_position g) (OthersBelow t (order_position g) (p + 1) x h) v
others_stay t g i p x h v lists op at none m =
    max_alike (order_position g) (OthersBelow t (order_position g) p x h) (OthersBelow t (order_position g) (p + 1) x h) v
    (λ a o. (o.0, o.1, omega (arith, o.2)))
    (λ a o. elim (cases_lt (order_position g a) p) [
      | inl l ↦ (o.0, o.1, l)
      | inr n ↦
          let s : a ≡ i = one_position t g a i lists (store_at t a x o.0) op (let q : order_position g a ≡ order_position g i = omega (arith, n, o.2, at) in q) in
          absurd (none (subst (λ k. writes_at t k x ≡ true) s o.0) (subst (λ k. (event t k).hart ≢ h) s o.1))
    ])
    m

latest_stored : (t : List Event) (g : List ℕ) (i p x : ℕ) (l : Latest) → ListsOperations t g → is_operation (event t i) ≡ true → order_position g i ≡ p → writes_at t i x ≡ true →
    IsLatestStore t (order_position g) p x l → IsLatestStore t (order_position g) (p + 1) x (after_store l (event t i).hart (p + 1))
latest_stored t g i p x l lists op at w s = record { last = last; owner = owner; other = other }
  where
    low : l.last ≤ p
    low = max_below (order_position g) (Below (λ e. writes e.access x) t (order_position g) p) l.last p s.last (λ a b. b.1)

    last : IsMax (order_position g) (Below (λ e. writes e.access x) t (order_position g) (p + 1)) (p + 1)
    last =
        let m : max l.last (p + 1) ≡ p + 1 = omega (arith, low) in
        subst (IsMax (order_position g) (Below (λ e. writes e.access x) t (order_position g) (p + 1))) m
        (below_step (λ e. writes e.access x) t (order_position g) i p l.last (p + 1) true w at refl (λ a v e. one_position t g a i lists (store_at t a x v) op (e ∙ sym at)) s.last)

    owner : (a : ℕ) → writes_at t a x ≡ true → order_position g a < p + 1 → order_position g a + 1 ≡ p + 1 → (event t a).hart ≡ (event t i).hart
    owner a v b e = ap (λ k. (event t k).hart) (one_position t g a i lists (store_at t a x v) op (let q : order_position g a ≡ order_position g i = omega (arith, e, at) in q))

    other : IsMax (order_position g) (OthersBelow t (order_position g) (p + 1) x (event t i).hart) (others_of l (event t i).hart)
    other = others_stay t g i p x (event t i).hart (others_of l (event t i).hart) lists op at (λ v n. n refl) (others_max t (order_position g) p x (event t i).hart l s)

latest_stays : (t : List Event) (g : List ℕ) (i p x : ℕ) (l : Latest) → ListsOperations t g → is_operation (event t i) ≡ true → order_position g i ≡ p → writes_at t i x ≡ false →
    IsLatestStore t (order_position g) p x l → IsLatestStore t (order_position g) (p + 1) x l
latest_stays t g i p x l lists op at w s = record {
  last = below_step (λ e. writes e.access x) t (order_position g) i p l.last (p + 1) false w at refl (λ a v e. one_position t g a i lists (store_at t a x v) op (e ∙ sym at)) s.last;
  owner = λ a v b e. s.owner a v (let low = max_below (order_position g) (Below (λ d. writes d.access x) t (order_position g) p) l.last p s.last (λ k q. q.1) in omega (arith, e, low)) e;
  other = others_stay t g i p x l.owner l.other lists op at (λ v n. let f : true ≡ false = sym v ∙ w in cc) s.other;
}

pub latest_step : (t : List Event) (g : List ℕ) (i p hart : ℕ) (e : Event) (old new : ℕ → Latest) → ListsOperations t g → e ≡ event t i → hart ≡ e.hart → is_operation (event t i) ≡ true → order_position g i ≡ p →
    ((x : ℕ) → new x ≡ (if writes e.access x then after_store (old x) hart (p + 1) else old x)) →
    ((x : ℕ) → IsLatestStore t (order_position g) p x (old x)) → (x : ℕ) → IsLatestStore t (order_position g) (p + 1) x (new x)
latest_step t g i p hart e old new lists is of op at set was x = elim (cases_Bool (writes e.access x)) [
  | inl w ↦
      let n : new x ≡ after_store (old x) (event t i).hart (p + 1) =
      set x ∙ cond-true (writes e.access x) (after_store (old x) hart (p + 1)) (old x) w ∙ ap (λ h. after_store (old x) h (p + 1)) (of ∙ ap (λ (f : Event). f.hart) is) in
      subst (IsLatestStore t (order_position g) (p + 1) x) (sym n) (latest_stored t g i p x (old x) lists op at (ap (λ (f : Event). writes f.access x) (sym is) ∙ w) (was x))
  | inr w ↦
      let n : new x ≡ old x = set x ∙ cond-false (writes e.access x) (after_store (old x) hart (p + 1)) (old x) w in
      subst (IsLatestStore t (order_position g) (p + 1) x) (sym n) (latest_stays t g i p x (old x) lists op at (ap (λ (f : Event). writes f.access x) (sym is) ∙ w) (was x))
]

-- ---- what the test of a byte says

undisturbed_from : (t : List Event) (pos : ℕ → ℕ) (l c x v o : ℕ) (s : Option ℕ) → IsMax pos (MaySee t pos l x) v → IsMax pos (OthersBelow t pos (pos c) x (event t c).hart) o →
    IsSource t pos l x s → o ≤ v → v ≤ pos c → IsUndisturbed t pos c x s
undisturbed_from t pos l c x v o None m n h low high = λ w wr n' b.
    let u = n.upper w (wr, n', b) in
    elim m.attained [ inl z ↦ omega (arith, u, z, low) | inr a ↦ h a.0 a.1 ]
undisturbed_from t pos l c x v o (Some a) m n h low high = (
  let u = m.upper a h.0 in omega (arith, u, high),
  λ w wr other after before.
      let u = n.upper w (wr, other, before) in
      elim m.attained [ inl z ↦ omega (arith, u, z, low) | inr b ↦ let k = h.1 b.0 b.1 in omega (arith, u, low, b.2, k, after) ],
)

from_undisturbed : (t : List Event) (pos : ℕ → ℕ) (l c x v o : ℕ) (s : Option ℕ) → IsMax pos (MaySee t pos l x) v → IsMax pos (OthersBelow t pos (pos c) x (event t c).hart) o →
    IsSource t pos l x s → IsUndisturbed t pos c x s → (o ≤ v) × (v ≤ pos c)
from_undisturbed t pos l c x v o None m n h keeps =
    (max_below pos (OthersBelow t pos (pos c) x (event t c).hart) o v n (λ a q. absurd (keeps a q.0 q.1 q.2)), max_below pos (MaySee t pos l x) v (pos c) m (λ a q. absurd (h a q)))
from_undisturbed t pos l c x v o (Some a) m n h keeps = (
  max_below pos (OthersBelow t pos (pos c) x (event t c).hart) o v n
      (λ w q. let u = m.upper a h.0 in elim (cases_lt (pos a) (pos w)) [ inl b ↦ absurd (keeps.1 w q.0 q.1 b q.2) | inr b ↦ omega (arith, b, u) ]),
  max_below pos (MaySee t pos l x) v (pos c) m (λ w q. let k = h.1 w q in let b = keeps.0 in omega (arith, k, b)),
)

-- ---- one pair

abbrev pub UndisturbedByTest : Access → (ℕ → ℕ) → (ℕ → ℕ) → ℕ → Type 0
UndisturbedByTest a others sources p = (x : ℕ) → in_range (address_of a) (bytes_of a) x ≡ true → (others x ≤ sources x) × (sources x ≤ p)

one_pair : (t : List Event) (l m c : ℕ) → IsPaired t l c → IsPaired t m c → l ≡ m
one_pair t l m c a b = elim (cases_lt l m) [
  | inl u ↦ absurd (a.none_between m u b.in_program.earlier b.in_program.same_hart (lr_reserves (event t m).access b.reserved))
  | inr u ↦ elim (cases_lt m l) [
    | inl v ↦ absurd (b.none_between l v a.in_program.earlier a.in_program.same_hart (lr_reserves (event t l).access a.reserved))
    | inr v ↦ omega (arith, u, v)
  ]
]
  where
    lr_reserves : (a : Access) → is_lr a ≡ true → (is_lr a || is_sc a) ≡ true
    lr_reserves a h = grind arith

pub lr_loads : (a : Access) → is_lr a ≡ true → loads a ≡ true
lr_loads (Load w p x r) h = cc
lr_loads (Store w p x v) h = cc
lr_loads (LoadReserved w o p x r) h = refl
lr_loads (StoreConditional w o p x v) h = cc
lr_loads (Atomic w o p x r v) h = cc
lr_loads (Fence b c m p) h = cc

sc_stores : (a : Access) → is_sc a ≡ true → (loads a || stores a) ≡ true → stores a ≡ true
sc_stores (Load w p x r) h o = cc
sc_stores (Store w p x v) h o = cc
sc_stores (LoadReserved w o p x r) h q = cc
sc_stores (StoreConditional w o p x v) h q = q
sc_stores (Atomic w o p x r v) h q = cc
sc_stores (Fence b c m p) h o = cc

pub atomic_from_test : (t : List Event) (g : List ℕ) (c p l hart : ℕ) (e : Event) (others sources : ℕ → ℕ) → ListsOperations t g → order_position g c ≡ p → IsPaired t l c → e ≡ event t l → hart ≡ (event t c).hart →
    ((x : ℕ) → IsMax (order_position g) (OthersBelow t (order_position g) p x hart) (others x)) → ((x : ℕ) → reads_at t l x ≡ true → IsMax (order_position g) (MaySee t (order_position g) l x) (sources x)) →
    UndisturbedByTest e.access others sources p → AtomicAt t (order_position g) c
atomic_from_test t g c p l hart e others sources lists at paired is of om sm test m x s pair st read source =
    let same : m ≡ l = one_pair t m l c pair paired in
    let r : reads_at t l x ≡ true = subst (λ k. reads_at t k x ≡ true) same read in
    let b = test x (ap (λ (f : Event). in_range (address_of f.access) (bytes_of f.access) x) is ∙ (and_parts (loads (event t l).access) (in_range (address_of (event t l).access) (bytes_of (event t l).access) x) r).1) in
    undisturbed_from t (order_position g) l c x (sources x) (others x) s (sm x r)
    (subst (λ h. IsMax (order_position g) (OthersBelow t (order_position g) (order_position g c) x h) (others x)) of (subst (λ q. IsMax (order_position g) (OthersBelow t (order_position g) q x hart) (others x)) (sym at) (om x)))
    (subst (λ k. IsSource t (order_position g) k x s) same source) b.0 (let k = b.1 in omega (arith, k, at))

pub test_from_atomic : (t : List Event) (g : List ℕ) (c p l hart : ℕ) (e : Event) (others sources : ℕ → ℕ) → ListsOperations t g → is_operation (event t c) ≡ true → order_position g c ≡ p → IsPaired t l c → e ≡ event t l → hart ≡ (event t c).hart →
    ((x : ℕ) → IsMax (order_position g) (OthersBelow t (order_position g) p x hart) (others x)) → ((x : ℕ) → reads_at t l x ≡ true → IsMax (order_position g) (MaySee t (order_position g) l x) (sources x)) →
    AtomicAt t (order_position g) c → UndisturbedByTest e.access others sources p
test_from_atomic t g c p l hart e others sources lists op at paired is of om sm atomic x h =
    let r : reads_at t l x ≡ true = both (loads (event t l).access) (in_range (address_of (event t l).access) (bytes_of (event t l).access) x)
    (lr_loads (event t l).access paired.reserved) (sym (ap (λ (f : Event). in_range (address_of f.access) (bytes_of f.access) x) is) ∙ h) in
    let s = source_by_bound t (λ k. 0) g l x (sources x) lists (sm x r) in
    let b = from_undisturbed t (order_position g) l c x (sources x) (others x) s.0 (sm x r)
    (subst (λ k. IsMax (order_position g) (OthersBelow t (order_position g) (order_position g c) x k) (others x)) of (subst (λ q. IsMax (order_position g) (OthersBelow t (order_position g) q x hart) (others x)) (sym at) (om x)))
    s.1 (atomic l x s.0 paired (sc_stores (event t c).access paired.conditional op) r s.1) in
    (b.0, let k = b.1 in omega (arith, k, at))
  where
    both : (a b : Bool) → a ≡ true → b ≡ true → (a && b) ≡ true
    both a b h k = grind arith

-- ---- all positions

pub atomicity_from_each : (t : List Event) (g : List ℕ) → ListsOperations t g → ((p : ℕ) → p < length g → AtomicAt t (order_position g) (get_or g p 0)) → AtomicityAxiom t (order_position g)
atomicity_from_each t g lists each l c x s pair st read source =
    let f = position_of_contained g c (lists.each c (store_is_operation (event t c) st)) in
    subst (AtomicAt t (order_position g)) f.1 (each (order_position g c) f.0) l x s pair st read source
