-- The bounds of bytes say where operations of common bytes let the later ones of a hart stand.
use Rattle.std.proofs.Common.{◌≡◌, ◌≢◌, ℕ, zero, suc, ◌+◌, ◌-◌, ◌<◌, ◌≤◌, ◌==◌, ◌&&◌, ◌||◌, max, ◌⊎◌, Bool, true, if◌then◌else◌, List, get_or, Option, Some, None, refl, sym, ap, ◌∙◌, subst, inl, inr, arith}
use Rattle.std.proofs.lemmas.Bool.{and_from, and_parts, cases_Bool, cases_lt, cases_eq, eq-eqb}
use Rattle.round_schedule.specs.declared.access.Access.{Access}
use Rattle.round_schedule.specs.declared.access.Access.TheVariants.{Load, Store, LoadReserved, StoreConditional, Atomic, Fence}
use Rattle.round_schedule.specs.declared.event.Event.{Event}
use Rattle.round_schedule.specs.Accesses.{is_sc, loads, reads, stores, writes}
use Rattle.round_schedule.specs.Positions.{ProgramBefore, event, reads_at, writes_at}
use Rattle.memory_order.specs.Operations.{covers, is_amo, is_operation, is_plain_store}
use Rattle.memory_order.specs.Orders.{ListsOperations, order_position}
use Rattle.memory_order.specs.Rvwmo.{IsSource, MaySee}
use Rattle.memory_order.proofs.Sources.{load_at, one_position, store_at}
use Rattle.memory_order.specs.Checking.{Earlier, IsMax}
use Rattle.rule_checker.specs.Bytes.{RespectsBytesAt, IsForwarded, MayLoad, RuleByByte, byte-atomic, byte-different, byte-overlap}
use Rattle.memory_order.proofs.Bounding.{below_max, earlier_none, earlier_step, max_below, max_join_if}
use Rattle.rule_checker.proofs.Carrying.{bound_of_source, listed_at, source_of_bound, split_place}
use Rattle.memory_order.proofs.Sourcing.{same_number}

-- ---- along the program

abbrev is_touching : ℕ → Event → Bool
is_touching x e = is_operation e && covers e.access x

abbrev pub Touched : List Event → (ℕ → ℕ) → ℕ → (ℕ → ℕ → ℕ) → Type 0
Touched t pos i touched = (h x : ℕ) → IsMax pos (Earlier (is_touching x) t h i) (touched h x)

pub touched_none : (t : List Event) (pos : ℕ → ℕ) (touched : ℕ → ℕ → ℕ) → ((h x : ℕ) → touched h x ≡ 0) → Touched t pos 0 touched
touched_none t pos touched z h x = subst (IsMax pos (Earlier (is_touching x) t h 0)) (sym (z h x)) (earlier_none (is_touching x) t pos h)

pub touched_step : (t : List Event) (pos : ℕ → ℕ) (i next : ℕ) (e : Event) (old new : ℕ → ℕ → ℕ) → e ≡ event t i → next ≡ pos i + 1 →
    ((h x : ℕ) → new h x ≡ (if h == e.hart && (is_operation e && covers e.access x) then max (old h x) next else old h x)) → Touched t pos i old → Touched t pos (i + 1) new
touched_step t pos i next e old new is at set was h x =
    subst (IsMax pos (Earlier (is_touching x) t h (i + 1))) (sym (set h x))
    (earlier_step (is_touching x) t pos h i (old h x) next (h == e.hart && is_touching x e) to from (λ _. at) (was h x))
  where
    to : (h == e.hart && is_touching x e) ≡ true → ((event t i).hart ≡ h) × (is_touching x (event t i) ≡ true)
    to r =
        let p = and_parts (h == e.hart) (is_touching x e) r in
        (ap (λ (f : Event). f.hart) (sym is) ∙ sym (same_number h e.hart p.0), ap (is_touching x) (sym is) ∙ p.1)

    from : (event t i).hart ≡ h → is_touching x (event t i) ≡ true → (h == e.hart && is_touching x e) ≡ true
    from s w = and_from (h == e.hart) (is_touching x e) (eq-eqb h e.hart (sym s ∙ ap (λ (f : Event). f.hart) (sym is))) (ap (is_touching x) is ∙ w)

-- a store that a load of byte x of hart h before index i may be from
abbrev SeenBy : List Event → (ℕ → ℕ) → ℕ → ℕ → ℕ → ℕ → Type 0
SeenBy t pos h i x w = (a : ℕ) × (a < i) × ((event t a).hart ≡ h) × (reads_at t a x ≡ true) × MaySee t pos a x w

abbrev pub Seen : List Event → (ℕ → ℕ) → ℕ → (ℕ → ℕ → ℕ) → Type 0
Seen t pos i seen = (h x : ℕ) → IsMax pos (SeenBy t pos h i x) (seen h x)

pub seen_by_step : (t : List Event) (pos : ℕ → ℕ) (i : ℕ) (e : Event) (sources old new : ℕ → ℕ → ℕ) → e ≡ event t i →
    ((h x : ℕ) → new h x ≡ (if h == e.hart && reads e.access x then max (old h x) (sources i x) else old h x)) →
    ((r x : ℕ) → reads_at t r x ≡ true → IsMax pos (MaySee t pos r x) (sources r x)) → Seen t pos i old → Seen t pos (i + 1) new
seen_by_step t pos i e sources old new is set max was h x =
    subst (IsMax pos (SeenBy t pos h (i + 1) x)) (sym (set h x))
    (max_join_if pos (SeenBy t pos h i x) (MaySee t pos i x) (SeenBy t pos h (i + 1) x) (old h x) (sources i x) (h == e.hart && reads e.access x)
    (λ w p. (p.0, omega (arith, p.1), p.2, p.3, p.4))
    (λ r w m. let p = and_parts (h == e.hart) (reads e.access x) r in
    (i, omega arith, ap (λ (f : Event). f.hart) (sym is) ∙ sym (same_number h e.hart p.0), reading r, m))
    (λ w p. elim (split_place i p.0 p.1) [
      | inl l ↦ inl (p.0, l, p.2, p.3, p.4)
      | inr s ↦ inr (
        subst (λ n. MaySee t pos n x w) s p.4,
        and_from (h == e.hart) (reads e.access x)
            (eq-eqb h e.hart (sym p.2 ∙ ap (λ n. (event t n).hart) s ∙ ap (λ (f : Event). f.hart) (sym is)))
            (ap (λ (f : Event). reads f.access x) is ∙ sym (ap (λ n. reads_at t n x) s) ∙ p.3),
      )
    ])
    (was h x) (λ r. max i x (reading r)))
  where
    reading : (h == e.hart && reads e.access x) ≡ true → reads_at t i x ≡ true
    reading r = ap (λ (f : Event). reads f.access x) (sym is) ∙ (and_parts (h == e.hart) (reads e.access x) r).1

-- ---- from the tests to the rules

both_is_amo : (a : Access) → loads a ≡ true → stores a ≡ true → (is_amo a || is_sc a) ≡ true
both_is_amo (Load w p x r) h k = cc
both_is_amo (Store w p x v) h k = cc
both_is_amo (LoadReserved w o p x r) h k = cc
both_is_amo (StoreConditional w o p x v) h k = cc
both_is_amo (Atomic w o p x r v) h k = refl
both_is_amo (Fence b c m p) h k = cc

not_plain : (a : Access) → (is_amo a || is_sc a) ≡ true → is_plain_store a ≡ true → ⊥
not_plain (Load w p x r) h k = cc
not_plain (Store w p x v) h k = cc
not_plain (LoadReserved w o p x r) h k = cc
not_plain (StoreConditional w o p x v) h k = cc
not_plain (Atomic w o p x r v) h k = cc
not_plain (Fence b c m p) h k = cc

plain_or_atomic : (a : Access) → stores a ≡ true → (is_plain_store a ≡ true) ⊎ ((is_amo a || is_sc a) ≡ true)
plain_or_atomic (Load w p x r) h = cc
plain_or_atomic (Store w p x v) h = inl refl
plain_or_atomic (LoadReserved w o p x r) h = cc
plain_or_atomic (StoreConditional w o p x v) h = inr refl
plain_or_atomic (Atomic w o p x r v) h = inr refl
plain_or_atomic (Fence b c m p) h = cc

-- what a later load of the hart may see, an earlier one that stands behind it sees too, or it is the earlier one's own store
passes_on : (t : List Event) (pos : ℕ → ℕ) (a b x w : ℕ) → ProgramBefore t a b → pos b < pos a →
    ((k : ℕ) → a < k → k < b → (event t k).hart ≡ (event t b).hart → writes_at t k x ≡ true → ⊥) → MaySee t pos b x w → MaySee t pos a x w ⊎ (w ≡ a)
passes_on t pos a b x w before l none m = elim m.1 [
  | inl k ↦ inl (m.0, inl (omega (arith, k, l)))
  | inr q ↦ elim (cases_lt w a) [
    | inl e ↦ inl (m.0, inr (record { earlier = e; same_hart = q.same_hart ∙ sym before.same_hart }))
    | inr n ↦ elim (cases_eq w a) [
      | inl s ↦ inr s
      | inr o ↦ absurd (none w (omega (arith, n, o)) q.earlier q.same_hart m.0)
    ]
  ]
]

pub atomic_from_tests : (t : List Event) (g : List ℕ) (b p a x s : ℕ) → ListsOperations t g → p ≡ order_position g b → (is_amo (event t a).access || is_sc (event t a).access) ≡ true →
    IsMax (order_position g) (MaySee t (order_position g) b x) s → IsForwarded t g p s → IsSource t (order_position g) b x (Some a) → order_position g a < order_position g b
atomic_from_tests t g b p a x s lists at atomic max forwarded source =
    let e = bound_of_source t (order_position g) b x a s source max in
    elim forwarded [
      | inl l ↦ omega (arith, e, l, at)
      | inr plain ↦
          let n = listed_at t g a s lists (store_at t a x source.0.0) e in
          absurd (not_plain (event t a).access atomic (subst (λ i. is_plain_store (event t i).access ≡ true) n plain))
    ]

different_from_tests : (t : List Event) (g : List ℕ) (b p a x : ℕ) (s u : Option ℕ) (v : ℕ) → ListsOperations t g → p ≡ order_position g b → ProgramBefore t a b → reads_at t a x ≡ true → reads_at t b x ≡ true →
    ((k : ℕ) → a < k → k < b → (event t k).hart ≡ (event t b).hart → writes_at t k x ≡ true → ⊥) →
    IsMax (order_position g) (MaySee t (order_position g) b x) v → IsForwarded t g p v → ((w : ℕ) → MaySee t (order_position g) a x w → order_position g w < v) →
    IsSource t (order_position g) a x s → IsSource t (order_position g) b x u → s ≢ u → order_position g b < order_position g a → ⊥
different_from_tests t g b p a x None None v lists at before ra rb none max forwarded seen sa ub d l = d refl
different_from_tests t g b p a x (Some w) None v lists at before ra rb none max forwarded seen sa ub d l =
    let k = seen w sa.0 in
    elim max.attained [
      | inl z ↦ omega (arith, z, k)
      | inr m ↦ ub m.0 m.1
    ]
different_from_tests t g b p a x s (Some y) v lists at before ra rb none max forwarded seen sa ub d l = elim (passes_on t (order_position g) a b x y before l none ub.0) [
  | inl m ↦ earlier_source s sa d m
  | inr same ↦
      let wa : writes_at t a x ≡ true = subst (λ n. writes_at t n x ≡ true) same ub.0.0 in
      let k = atomic_from_tests t g b p a x v lists at (both_is_amo (event t a).access (and_parts (loads (event t a).access) (covers (event t a).access x) ra).0 (and_parts (stores (event t a).access) (covers (event t a).access x) wa).0) max forwarded
      (subst (λ n. IsSource t (order_position g) b x (Some n)) same ub) in
      omega (arith, k, l)
]
  where
    earlier_source : (o : Option ℕ) → IsSource t (order_position g) a x o → o ≢ Some y → MaySee t (order_position g) a x y → ⊥
    earlier_source None none_a different m = none_a y m
    earlier_source (Some w) w_a different m =
        let up = w_a.1 y m in
        let down = seen w w_a.0 in
        let e = bound_of_source t (order_position g) b x y v ub max in
        different (ap (λ n. Some n) (one_position t g w y lists (store_at t w x w_a.0.0) (store_at t y x m.0) (omega (arith, up, down, e))))

pub bytes_from_tests : (t : List Event) (g : List ℕ) (i p : ℕ) (e : Event) (touched seen sources : ℕ → ℕ → ℕ) → ListsOperations t g → e ≡ event t i → p ≡ order_position g i →
    Touched t (order_position g) i touched → Seen t (order_position g) i seen → ((r x : ℕ) → reads_at t r x ≡ true → IsMax (order_position g) (MaySee t (order_position g) r x) (sources r x)) →
    ((x : ℕ) → writes e.access x ≡ true → touched e.hart x ≤ p) → MayLoad t g (seen e.hart) (sources i) i p → RespectsBytesAt t (order_position g) i
bytes_from_tests t g i p e touched seen sources lists is at touch see max storing loading a op before rule = by_rule rule
  where
    hart : (event t a).hart ≡ e.hart
    hart = before.same_hart ∙ ap (λ (f : Event). f.hart) (sym is)

    by_rule : RuleByByte t (order_position g) a i → order_position g a < order_position g i
    by_rule (byte-overlap x s ca cb) =
        let w : writes e.access x ≡ true = ap (λ (f : Event). writes f.access x) is ∙ and_from (stores (event t i).access) (covers (event t i).access x) s cb in
        let u = below_max (order_position g) (Earlier (is_touching x) t e.hart i) (touched e.hart x) p (touch e.hart x) (storing x w) a
        (before.earlier, hart, and_from (is_operation (event t a)) (covers (event t a).access x) op ca) in
        omega (arith, u, at)
    by_rule (byte-atomic x atomic rb source) = atomic_from_tests t g i p a x (sources i x) lists at atomic (max i x rb) (loading x rb).1 source
    by_rule (byte-different x s u ra rb none sa ub d) = elim (cases_lt (order_position g a) (order_position g i)) [
      | inl l ↦ l
      | inr n ↦ elim (cases_eq (order_position g a) (order_position g i)) [
        | inl same ↦ absurd (let k = one_position t g a i lists op (load_at t i x rb) same in let l = before.earlier in omega (arith, k, l))
        | inr o ↦ absurd (different_from_tests t g i p a x s u (sources i x) lists at before ra rb none (max i x rb) (loading x rb).1
            (λ w m. below_max (order_position g) (SeenBy t (order_position g) e.hart i x) (seen e.hart x) (sources i x) (see e.hart x) (loading x rb).0 w (a, before.earlier, hart, ra, m))
            sa ub d (omega (arith, n, o)))
      ]
    ]

-- ---- from the rules to the tests

pub touched_from_respected : (t : List Event) (g : List ℕ) (i p : ℕ) (e : Event) (touched : ℕ → ℕ → ℕ) → e ≡ event t i → p ≡ order_position g i → Touched t (order_position g) i touched →
    (is_operation (event t i) ≡ true → RespectsBytesAt t (order_position g) i) → (x : ℕ) → writes e.access x ≡ true → touched e.hart x ≤ p
touched_from_respected t g i p e touched is at touch respected x w =
    let here : writes_at t i x ≡ true = sym (ap (λ (f : Event). writes f.access x) is) ∙ w in
    max_below (order_position g) (Earlier (is_touching x) t e.hart i) (touched e.hart x) p (touch e.hart x)
    (λ a q.
    let parts = and_parts (is_operation (event t a)) (covers (event t a).access x) q.2 in
    let both = and_parts (stores (event t i).access) (covers (event t i).access x) here in
    let k = respected (store_at t i x here) a parts.0 (record { earlier = q.0; same_hart = q.1 ∙ ap (λ (f : Event). f.hart) is }) (byte-overlap x both.0 parts.1 both.1) in
    omega (arith, k, at))

-- a store of the hart between two indexes, or none
abbrev StoreBetween : List Event → ℕ → ℕ → ℕ → ℕ → Type 0
StoreBetween t h x a n = (k : ℕ) × (a < k) × (k < n) × ((event t k).hart ≡ h) × (writes_at t k x ≡ true)

store_between : (t : List Event) (h x a n : ℕ) → StoreBetween t h x a n ⊎ ((k : ℕ) → a < k → k < n → (event t k).hart ≡ h → writes_at t k x ≡ true → ⊥)
store_between t h x a zero = inr (λ k l m s w. omega (arith, m))
store_between t h x a (suc n) = elim (store_between t h x a n) [
  | inl s ↦ inl (s.0, s.1, omega (arith, s.2), s.3, s.4)
  | inr none ↦ elim (cases_lt a n) [
    | inr before ↦ inr (λ k l m s w. omega (arith, before, l, m))
    | inl after ↦ elim (cases_eq (event t n).hart h) [
      | inr other ↦ inr (λ k l m s w. elim (cases_lt k n) [
        | inl b ↦ none k l b s w
        | inr b ↦ other (sym (ap (λ j. (event t j).hart) (let q : k ≡ n = omega (arith, b, m) in q)) ∙ s)
      ])
      | inl same ↦ elim (cases_Bool (writes_at t n x)) [
        | inl w ↦ inl (n, after, omega arith, same, w)
        | inr w ↦ inr (λ k l m s v. elim (cases_lt k n) [
          | inl b ↦ none k l b s v
          | inr b ↦
              let q : k ≡ n = omega (arith, b, m) in
              let u = ap (λ j. writes_at t j x) q in
              cc
        ])
      ]
    ]
  ]
]

any_source : (t : List Event) (g : List ℕ) (b x s : ℕ) → ListsOperations t g → IsMax (order_position g) (MaySee t (order_position g) b x) s → (u : Option ℕ) × IsSource t (order_position g) b x u × ((w : ℕ) → u ≡ Some w → order_position g w < s)
any_source t g b x s lists max = elim (cases_eq s 0) [
  | inl z ↦ (None, (λ w m. let l = max.upper w m in omega (arith, l, z)), λ w e. cc)
  | inr n ↦ (Some (get_or g (s - 1) 0), source_of_bound t g b x s lists max n, λ w e. let k = source_of_bound t g b x s lists max n in below w e k)
]
  where
    below : (w : ℕ) → Some (get_or g (s - 1) 0) ≡ Some w → IsSource t (order_position g) b x (Some (get_or g (s - 1) 0)) → order_position g w < s
    below w e k = let q = subst (IsSource t (order_position g) b x) e k in max.upper w q.0

abbrev pub RespectedBefore : List Event → (ℕ → ℕ) → ℕ → Type 0
RespectedBefore t pos i = (b : ℕ) → b < i → is_operation (event t b) ≡ true → RespectsBytesAt t pos b

seen_below : (t : List Event) (g : List ℕ) (a b x w : ℕ) (sources : ℕ → ℕ → ℕ) → ListsOperations t g → RespectedBefore t (order_position g) b → RespectsBytesAt t (order_position g) b → ProgramBefore t a b → reads_at t a x ≡ true → reads_at t b x ≡ true →
    ((r y : ℕ) → reads_at t r y ≡ true → IsMax (order_position g) (MaySee t (order_position g) r y) (sources r y)) → MaySee t (order_position g) a x w → order_position g w < sources b x
seen_below t g a b x w sources lists earlier respected before ra rb max m = elim (store_between t (event t b).hart x a b) [
  | inl k ↦ past k
  | inr none ↦ beside none
]
  where
    pos : ℕ → ℕ
    pos = order_position g

    up : (v : ℕ) → MaySee t pos b x v → pos v < sources b x
    up v q = (max b x rb).upper v q

    past : StoreBetween t (event t b).hart x a b → pos w < sources b x
    past k =
        let q = and_parts (stores (event t k.0).access) (covers (event t k.0).access x) k.4 in
        let here = up k.0 (k.4, inr (record { earlier = k.2; same_hart = k.3 })) in
        let order : (v : ℕ) → v < k.0 → (event t v).hart ≡ (event t b).hart → is_operation (event t v) ≡ true → covers (event t v).access x ≡ true → pos v < pos k.0 =
        λ v l s op c. earlier k.0 k.2 (store_at t k.0 x k.4) v op (record { earlier = l; same_hart = s ∙ sym k.3 }) (byte-overlap x q.0 c q.1) in
        elim m.1 [
          | inl l ↦
              let o = order a k.1 before.same_hart (load_at t a x ra) (and_parts (loads (event t a).access) (covers (event t a).access x) ra).1 in
              omega (arith, l, o, here)
          | inr p ↦
              let o = order w (let l = p.earlier in let n = k.1 in omega (arith, l, n)) (p.same_hart ∙ before.same_hart) (store_at t w x m.0) (and_parts (stores (event t w).access) (covers (event t w).access x) m.0).1 in
              omega (arith, o, here)
        ]

    ahead : pos a < pos b → pos w < sources b x
    ahead l = up w (
      m.0,
      elim m.1 [
        | inl k ↦ inl (omega (arith, k, l))
        | inr p ↦ inr (record { earlier = (let k = p.earlier in let n = before.earlier in omega (arith, k, n)); same_hart = p.same_hart ∙ before.same_hart })
      ],
    )

    beside : ((k : ℕ) → a < k → k < b → (event t k).hart ≡ (event t b).hart → writes_at t k x ≡ true → ⊥) → pos w < sources b x
    beside none = elim (cases_lt (pos w) (sources b x)) [
      | inl l ↦ l
      | inr n ↦
          let sa = any_source t g a x (sources a x) lists (max a x ra) in
          let sb = any_source t g b x (sources b x) lists (max b x rb) in
          let wa = (max a x ra).upper w m in
          ahead (respected a (load_at t a x ra) before (byte-different x sa.0 sb.0 ra rb none sa.1 sb.1 (differ sa.0 sb.0 sa.1 sb.2 n)))
    ]
      where
        -- the store that a's byte is from is none that b's byte may be from
        differ : (s u : Option ℕ) → IsSource t pos a x s → ((v : ℕ) → u ≡ Some v → pos v < sources b x) → sources b x ≤ pos w → s ≢ u
        differ None u none_a below n e = none_a w m
        differ (Some v) u at_a below n e = let l = below v (sym e) in let k = at_a.1 w m in omega (arith, l, k, n)

pub load_from_respected : (t : List Event) (g : List ℕ) (i p : ℕ) (e : Event) (seen sources : ℕ → ℕ → ℕ) → ListsOperations t g → e ≡ event t i → p ≡ order_position g i →
    Seen t (order_position g) i seen → ((r x : ℕ) → reads_at t r x ≡ true → IsMax (order_position g) (MaySee t (order_position g) r x) (sources r x)) →
    RespectedBefore t (order_position g) i → (is_operation (event t i) ≡ true → RespectsBytesAt t (order_position g) i) → MayLoad t g (seen e.hart) (sources i) i p
load_from_respected t g i p e seen sources lists is at see max earlier respected x reads = (
  max_below (order_position g) (SeenBy t (order_position g) e.hart i x) (seen e.hart x) (sources i x) (see e.hart x)
      (λ w q. seen_below t g q.0 i x w sources lists earlier (respected (load_at t i x reads)) (record { earlier = q.1; same_hart = q.2 ∙ ap (λ (f : Event). f.hart) is }) q.3 reads max q.4),
  elim (cases_lt p (sources i x)) [
    | inr l ↦ inl l
    | inl l ↦
        let nonzero : sources i x ≢ 0 = λ z. omega (arith, z, l) in
        let source = source_of_bound t g i x (sources i x) lists (max i x reads) nonzero in
        elim (plain_or_atomic (event t (get_or g (sources i x - 1) 0)).access (and_parts (stores (event t (get_or g (sources i x - 1) 0)).access) (covers (event t (get_or g (sources i x - 1) 0)).access x) source.0.0).0) [
          | inl plain ↦ inr plain
          | inr atomic ↦
              let bound = bound_of_source t (order_position g) i x (get_or g (sources i x - 1) 0) (sources i x) source (max i x reads) in
              absurd (forward (get_or g (sources i x - 1) 0) source atomic (omega (arith, bound, l, at)))
        ]
  ],
)
  where
    forward : (a : ℕ) → IsSource t (order_position g) i x (Some a) → (is_amo (event t a).access || is_sc (event t a).access) ≡ true → order_position g i ≤ order_position g a → ⊥
    forward a source atomic l = elim source.0.1 [
      | inl k ↦ omega (arith, k, l)
      | inr q ↦ let k = respected (load_at t i x reads) a (store_at t a x source.0.0) q (byte-atomic x atomic reads source) in omega (arith, k, l)
    ]
