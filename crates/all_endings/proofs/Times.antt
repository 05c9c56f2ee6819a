-- The bounds of positions that the checker of rules keeps, carried over to times: a time rises with its position.
use Rattle.std.proofs.Common.{◌≡◌, ◌≢◌, ℕ, zero, suc, ◌+◌, ◌<◌, ◌≤◌, ◌==◌, ◌&&◌, max, Bool, true, false, if◌then◌else◌, List, [], ◌∷◌, length, get_or, slice_set, refl, sym, ap, ◌∙◌, subst, inl, inr, length-set, arith}
use Rattle.std.proofs.lemmas.Bool.{and_parts, cases_eq, cond-true, cond-false, eq-eqb, ne_eqb}
use Rattle.std.proofs.lemmas.List.{get_or-set_other, get_or-set_same}
use Rattle.rv64_decode.specs.declared.instruction.Instr.{Instr}
use Rattle.round_schedule.specs.declared.access.Access.{Access}
use Rattle.round_schedule.specs.declared.event.Event.{Event}
use Rattle.round_schedule.specs.Accesses.{loads, stores}
use Rattle.round_schedule.specs.Positions.{event}
use Rattle.hart_step.specs.Registers.{reg, set_reg}
use Rattle.memory_order.specs.CheckingProgram.{orders_loads, orders_stores}
use Rattle.memory_order.specs.Operations.{covers, is_acquire, is_operation}
use Rattle.memory_order.specs.Orders.{order_position}
use Rattle.memory_order.specs.Dependencies.{Depends, RespectsAt, registers_at}
use Rattle.memory_order.proofs.Steps.{depends_earlier}
use Rattle.memory_order.specs.declared.registers.Registers.{Registers}
use Rattle.memory_order.proofs.Bounding.{max_below}
use Rattle.rule_checker.specs.Bytes.{RespectsBytesAt, byte-overlap}
use Rattle.rule_checker.specs.Violations.{RespectsPairAt}
use Rattle.rule_checker.specs.CarriedBounds.{AllowedBy, AreRegisters, carried_after, destination_with, none_carried, operand_bound, result_bound, sources_bound}
use Rattle.rule_checker.specs.Kinds.{AllowedByKind, RespectsKindsAt, is_annotated, kinds_after, loads_loads, loads_stores, no_kinds}
use Rattle.rule_checker.specs.declared.annotated.KindBounds.{KindBounds}
use Rattle.rule_checker.specs.declared.carried.Carried.{Carried}
use Rattle.rule_checker.proofs.Carrying.{Carries, allowed_from_respected, carries_none, carries_step}
use Rattle.rule_checker.proofs.Coherence.{Touched, touched_none, touched_step}
use Rattle.rule_checker.proofs.Exactness.{parts_of_preserved}
use Rattle.rule_checker.proofs.KindBounds.{Kinds, allowed_from_kinds, kinds_none, kinds_step}
use Rattle.all_endings.specs.Times.{OperationsStandInTime, carried_before, kinds_before, stores_before, timed, touched_before}

-- ---- times rise

pub stores_rise : (t : List Event) (g : List ℕ) (p q : ℕ) → p ≤ q → stores_before t g p ≤ stores_before t g q
stores_rise t [] p q l = omega arith
stores_rise t (a ∷ g) zero q l = omega arith
stores_rise t (a ∷ g) (suc p) zero l = absurd (omega (arith, l))
stores_rise t (a ∷ g) (suc p) (suc q) l = let r = stores_rise t g p q (omega (arith, l)) in omega (arith, r)

abbrev pub Rises : (ℕ → ℕ) → Type 0
Rises f = (p q : ℕ) → p ≤ q → f p ≤ f q

pub timed_rises : (n : ℕ) (t : List Event) (g : List ℕ) → Rises (timed n t g)
timed_rises n t g p q l = let r = stores_rise t g p q l in omega (arith, r)

joined_below : (f : ℕ → ℕ) → Rises f → (d e u v : ℕ) → d ≤ f u → e ≤ f v → max d e ≤ f (max u v)
joined_below f rises d e u v l k =
    let a = rises u (max u v) (omega arith) in
    let b = rises v (max u v) (omega arith) in
    omega (arith, l, k, a, b)

-- a bound that is raised where a test passes
raised_below : (f : ℕ → ℕ) → Rises f → (c : Bool) (d e u v : ℕ) → d ≤ f u → e ≤ f v → (if c then max d e else d) ≤ f (if c then max u v else u)
raised_below f rises false d e u v l k = l
raised_below f rises true d e u v l k = joined_below f rises d e u v l k

if_below : (f : ℕ → ℕ) (c : Bool) (d u : ℕ) → d ≤ f u → (if c then d else 0) ≤ f (if c then u else 0)
if_below f true d u l = l
if_below f false d u l = omega arith

both_if : {A B : Type 0} (P : A → B → Type 0) (c : Bool) (x z : A) (y w : B) → P x y → P z w → P (if c then x else z) (if c then y else w)
both_if P true x z y w p q = p
both_if P false x z y w p q = q

-- what is changed of one hart's own
at_own : {A : Type 0} (h k : ℕ) (old : ℕ → A) (F : A → A) → (if h == k then F (old h) else old h) ≡ (if h == k then F (old k) else old h)
at_own h k old F = elim (cases_eq h k) [
  | inl same ↦ ap (λ n. if h == k then F (old n) else old h) same
  | inr other ↦ cond-false (h == k) (F (old h)) (old h) (ne_eqb h k other) ∙ sym (cond-false (h == k) (F (old k)) (old h) (ne_eqb h k other))
]

-- ---- rules 4 to 7

pub record KindsBelow (f : ℕ → ℕ) (d b : KindBounds) : Type 0 where
  pub loads : d.loads ≤ f b.loads
  pub stores : d.stores ≤ f b.stores
  pub acquires : d.acquires ≤ f b.acquires
  pub annotated : d.annotated ≤ f b.annotated
  pub load_load : d.load_load ≤ f b.load_load
  pub load_store : d.load_store ≤ f b.load_store
  pub store_load : d.store_load ≤ f b.store_load
  pub store_store : d.store_store ≤ f b.store_store

none_below : (f : ℕ → ℕ) → KindsBelow f no_kinds no_kinds
none_below f = record {
  loads = omega arith;
  stores = omega arith;
  acquires = omega arith;
  annotated = omega arith;
  load_load = omega arith;
  load_store = omega arith;
  store_load = omega arith;
  store_store = omega arith;
}

pub kinds_below_after : (f : ℕ → ℕ) → Rises f → (d b : KindBounds) (a : Access) (o : Bool) (m next : ℕ) → m ≤ f next → KindsBelow f d b →
    KindsBelow f (kinds_after d a o m) (kinds_after b a o next)
kinds_below_after f rises d b a o m next l x = record {
  loads = raised_below f rises (loads a) d.loads m b.loads next x.loads l;
  stores = raised_below f rises (stores a) d.stores m b.stores next x.stores l;
  acquires = raised_below f rises (o && is_acquire a) d.acquires m b.acquires next x.acquires l;
  annotated = raised_below f rises (o && is_annotated a) d.annotated m b.annotated next x.annotated l;
  load_load = raised_below f rises (loads_loads a) d.load_load d.loads b.load_load b.loads x.load_load x.loads;
  load_store = raised_below f rises (loads_stores a) d.load_store d.loads b.load_store b.loads x.load_store x.loads;
  store_load = raised_below f rises (orders_loads a) d.store_load d.stores b.store_load b.stores x.store_load x.stores;
  store_store = raised_below f rises (orders_stores a) d.store_store d.stores b.store_store b.stores x.store_store x.stores;
}

pub allowed_below : (f : ℕ → ℕ) → Rises f → (d b : KindBounds) (a : Access) (p : ℕ) → KindsBelow f d b → AllowedByKind b a p → AllowedByKind d a (f p)
allowed_below f rises d b a p x allowed = (
  under d.acquires b.acquires x.acquires allowed.0,
  λ h. (under d.load_load b.load_load x.load_load (allowed.1 h).0, under d.store_load b.store_load x.store_load (allowed.1 h).1),
  λ h. (under d.load_store b.load_store x.load_store (allowed.2 h).0, under d.store_store b.store_store x.store_store (allowed.2 h).1),
  λ h. (under d.loads b.loads x.loads (allowed.3 h).0, under d.stores b.stores x.stores (allowed.3 h).1),
  λ h. under d.annotated b.annotated x.annotated (allowed.4 h),
)
  where
    under : (v u : ℕ) → v ≤ f u → u ≤ p → v ≤ f p
    under v u l k = let r = rises u p k in omega (arith, l, r)

kinds_below : (f : ℕ → ℕ) → Rises f → (t : List Event) (pos : ℕ → ℕ) (h i : ℕ) →
    KindsBelow f (kinds_before (λ j. f (pos j + 1)) t h i) (kinds_before (λ j. pos j + 1) t h i)
kinds_below f rises t pos h zero = none_below f
kinds_below f rises t pos h (suc i) =
    let x = kinds_below f rises t pos h i in
    both_if (KindsBelow f) (h == (event t i).hart) _ _ _ _
    (kinds_below_after f rises _ _ (event t i).access (is_operation (event t i)) (f (pos i + 1)) (pos i + 1) (omega arith) x) x

kinds_at : (t : List Event) (pos : ℕ → ℕ) (i h : ℕ) → Kinds t pos h i (kinds_before (λ j. pos j + 1) t h i)
kinds_at t pos zero h = kinds_none t pos h
kinds_at t pos (suc i) h =
    let e : i + 1 ≡ suc i = omega arith in
    subst (λ k. Kinds t pos h k (kinds_before (λ j. pos j + 1) t h (suc i))) e
    (kinds_step t pos i (pos i + 1) (event t i) (old (event t i).hart) old (λ k. kinds_before (λ j. pos j + 1) t k (suc i)) refl refl refl
    (λ k. at_own k (event t i).hart old (λ b. kinds_after b (event t i).access (is_operation (event t i)) (pos i + 1)))
    (λ k. kinds_at t pos i k) h)
  where
    old : ℕ → KindBounds
    old k = kinds_before (λ j. pos j + 1) t k i

-- ---- rules 9, 10, 11 and 13

pub reg_same : (xs : List ℕ) (d v : ℕ) → d ≢ 0 → d < length xs → reg (set_reg xs d v) d ≡ v
reg_same xs d v nonzero l =
    let z = ne_eqb d 0 nonzero in
    cond-false (d == 0) 0 (get_or (set_reg xs d v) d 0) z
    ∙ ap (λ (ys : List ℕ). get_or ys d 0) (cond-false (d == 0) xs (slice_set xs d v) z)
    ∙ get_or-set_same xs d v 0 l

pub reg_other : (xs : List ℕ) (d r v : ℕ) → r ≢ d → reg (set_reg xs d v) r ≡ reg xs r
reg_other xs d r v other = elim (cases_eq d 0) [
  | inl z ↦ ap (λ (ys : List ℕ). reg ys r) (cond-true (d == 0) xs (slice_set xs d v) (eq-eqb d 0 z))
  | inr z ↦
      ap (λ (ys : List ℕ). reg ys r) (cond-false (d == 0) xs (slice_set xs d v) (ne_eqb d 0 z))
      ∙ ap (λ n. if r == 0 then 0 else n) (get_or-set_other xs d r v 0 other)
]

set_length : (xs : List ℕ) (d v : ℕ) → length (set_reg xs d v) ≡ length xs
set_length xs d v = elim (cases_eq d 0) [
  | inl z ↦ ap length (cond-true (d == 0) xs (slice_set xs d v) (eq-eqb d 0 z))
  | inr z ↦ ap length (cond-false (d == 0) xs (slice_set xs d v) (ne_eqb d 0 z)) ∙ length-set xs d v
]

pub record CarriedBelow (f : ℕ → ℕ) (d c : Carried) : Type 0 where
  pub small : length d.registers ≡ 32
  pub size : length c.registers ≡ 32
  pub registers : (r : ℕ) → r < 32 → reg d.registers r ≤ f (reg c.registers r)
  pub steered : d.steered ≤ f c.steered
  pub addressed : d.addressed ≤ f c.addressed

pub operands_below : (f : ℕ → ℕ) → Rises f → (d c : Carried) (x : Registers) → AreRegisters x → CarriedBelow f d c → operand_bound d x ≤ f (operand_bound c x)
operands_below f rises d c x fit k =
    joined_below f rises (reg d.registers x.address) (reg d.registers x.value) (reg c.registers x.address) (reg c.registers x.value)
    (k.registers x.address fit.address) (k.registers x.value fit.value)

sources_below : (f : ℕ → ℕ) → Rises f → (d c : Carried) (x : Registers) → AreRegisters x → CarriedBelow f d c → sources_bound d x ≤ f (sources_bound c x)
sources_below f rises d c x fit k =
    joined_below f rises (operand_bound d x) (max (reg d.registers x.first) (reg d.registers x.second)) (operand_bound c x) (max (reg c.registers x.first) (reg c.registers x.second))
    (operands_below f rises d c x fit k)
    (joined_below f rises (reg d.registers x.first) (reg d.registers x.second) (reg c.registers x.first) (reg c.registers x.second)
    (k.registers x.first fit.first) (k.registers x.second fit.second))

result_below : (f : ℕ → ℕ) → Rises f → (d c : Carried) (x : Registers) (o : Bool) (m next : ℕ) → AreRegisters x → m ≤ f next → CarriedBelow f d c →
    result_bound d x o m ≤ f (result_bound c x o next)
result_below f rises d c x o m next fit l k =
    joined_below f rises (if o then m else 0) (if x.carries then sources_bound d x else 0) (if o then next else 0) (if x.carries then sources_bound c x else 0)
    (if_below f o m next l) (if_below f x.carries (sources_bound d x) (sources_bound c x) (sources_below f rises d c x fit k))

set_below : (f : ℕ → ℕ) (xs ys : List ℕ) (d v w r : ℕ) → length xs ≡ 32 → length ys ≡ 32 → r < 32 → v ≤ f w → reg xs r ≤ f (reg ys r) →
    reg (set_reg xs d v) r ≤ f (reg (set_reg ys d w) r)
set_below f xs ys d v w r lx ly l k was = elim (cases_eq r d) [
  | inr other ↦ let a = reg_other xs d r v other in let b = ap f (reg_other ys d r w other) in omega (arith, a, b, was)
  | inl here ↦ elim (cases_eq d 0) [
    | inl z ↦ omega (arith, ap (λ n. reg (set_reg xs d v) n) (zero_of here z))
    | inr nonzero ↦
        let a = reg_same xs d v nonzero (omega (arith, lx, l, here)) in
        let b = ap f (reg_same ys d w nonzero (omega (arith, ly, l, here))) in
        subst (λ n. reg (set_reg xs d v) n ≤ f (reg (set_reg ys d w) n)) (sym here) (omega (arith, a, b, k))
  ]
]
  where
    zero_of : r ≡ d → d ≡ 0 → r ≡ 0
    zero_of a b = a ∙ b

pub carried_below_after : (f : ℕ → ℕ) → Rises f → (d c : Carried) (x : Registers) (e : Event) (m next : ℕ) → AreRegisters x → m ≤ f next → CarriedBelow f d c →
    CarriedBelow f (carried_after d x e m) (carried_after c x e next)
carried_below_after f rises d c x e m next fit l k = record {
  small = set_length d.registers (destination_with x e.access) (result_bound d x (is_operation e) m) ∙ k.small;
  size = set_length c.registers (destination_with x e.access) (result_bound c x (is_operation e) next) ∙ k.size;
  registers = λ r s. set_below f d.registers c.registers (destination_with x e.access) (result_bound d x (is_operation e) m) (result_bound c x (is_operation e) next) r
      k.small k.size s (result_below f rises d c x (is_operation e) m next fit l k) (k.registers r s);
  steered = raised_below f rises x.steers d.steered (sources_bound d x) c.steered (sources_bound c x) k.steered (sources_below f rises d c x fit k);
  addressed = joined_below f rises d.addressed (reg d.registers x.address) c.addressed (reg c.registers x.address) k.addressed (k.registers x.address fit.address);
}

pub may_below : (f : ℕ → ℕ) → Rises f → (d c : Carried) (x : Registers) (a : Access) (p : ℕ) → AreRegisters x → CarriedBelow f d c → AllowedBy c x a p → AllowedBy d x a (f p)
may_below f rises d c x a p fit k allowed = (
  under (reg d.registers x.address) (reg c.registers x.address) (k.registers x.address fit.address) allowed.0,
  λ s. (
    under (reg d.registers x.value) (reg c.registers x.value) (k.registers x.value fit.value) (allowed.1 s).0,
    under d.steered c.steered k.steered (allowed.1 s).1,
    under d.addressed c.addressed k.addressed (allowed.1 s).2,
  ),
)
  where
    under : (v u : ℕ) → v ≤ f u → u ≤ p → v ≤ f p
    under v u l k = let r = rises u p k in omega (arith, l, r)

pub carried_at : (is : List Instr) (t : List Event) (pos : ℕ → ℕ) → ((i : ℕ) → AreRegisters (registers_at is i)) → (i h : ℕ) →
    Carries is t pos h i (carried_before (λ j. pos j + 1) is t h i)
carried_at is t pos fit zero h = carries_none is t pos h
carried_at is t pos fit (suc i) h =
    let e : i + 1 ≡ suc i = omega arith in
    subst (λ k. Carries is t pos h k (carried_before (λ j. pos j + 1) is t h (suc i))) e
    (carries_step is t pos i (pos i + 1) (event t i) (registers_at is i) (old (event t i).hart) old (λ k. carried_before (λ j. pos j + 1) is t k (suc i)) refl refl (fit i) refl refl
    (λ k. at_own k (event t i).hart old (λ c. carried_after c (registers_at is i) (event t i) (pos i + 1)))
    (λ k. carried_at is t pos fit i k) h)
  where
    old : ℕ → Carried
    old k = carried_before (λ j. pos j + 1) is t k i

pub carried_below : (f : ℕ → ℕ) → Rises f → (is : List Instr) (t : List Event) (pos : ℕ → ℕ) → ((i : ℕ) → AreRegisters (registers_at is i)) → (h i : ℕ) →
    CarriedBelow f (carried_before (λ j. f (pos j + 1)) is t h i) (carried_before (λ j. pos j + 1) is t h i)
carried_below f rises is t pos fit h zero = record {
  small = (carries_none is t pos h).size;
  size = (carries_none is t pos h).size;
  registers = λ r l. omega (arith, none_reg r l);
  steered = omega arith;
  addressed = omega arith;
}
  where
    none_reg : (r : ℕ) → r < 32 → reg none_carried.registers r ≤ 0
    none_reg r l = max_below pos _ (reg none_carried.registers r) 0 ((carries_none is t pos h).registers r l) (λ a w. absurd (nothing r a w.1))
      where
        nothing : (r a : ℕ) → Depends is t h 0 r a → ⊥
        nothing r a d = let l = depends_earlier is t h 0 r a d in omega (arith, l)
carried_below f rises is t pos fit h (suc i) =
    let x = carried_below f rises is t pos fit h i in
    both_if (CarriedBelow f) (h == (event t i).hart) _ _ _ _
    (carried_below_after f rises _ _ (registers_at is i) (event t i) (f (pos i + 1)) (pos i + 1) (fit i) (omega arith) x) x

-- ---- rule 1

touched_below : (f : ℕ → ℕ) → Rises f → (t : List Event) (pos : ℕ → ℕ) (h x i : ℕ) →
    touched_before (λ j. f (pos j + 1)) t h x i ≤ f (touched_before (λ j. pos j + 1) t h x i)
touched_below f rises t pos h x zero = omega arith
touched_below f rises t pos h x (suc i) =
    raised_below f rises (h == (event t i).hart && (is_operation (event t i) && covers (event t i).access x)) _ (f (pos i + 1)) _ (pos i + 1)
    (touched_below f rises t pos h x i) (omega arith)

touched_at : (t : List Event) (pos : ℕ → ℕ) (i : ℕ) → Touched t pos i (λ h x. touched_before (λ j. pos j + 1) t h x i)
touched_at t pos zero = touched_none t pos _ (λ h x. refl)
touched_at t pos (suc i) =
    let e : i + 1 ≡ suc i = omega arith in
    subst (λ k. Touched t pos k (λ h x. touched_before (λ j. pos j + 1) t h x (suc i))) e
    (touched_step t pos i (pos i + 1) (event t i) (λ h x. touched_before (λ j. pos j + 1) t h x i) (λ h x. touched_before (λ j. pos j + 1) t h x (suc i)) refl refl
    (λ h x. refl) (touched_at t pos i))

-- ---- together

pub stand_in_time : OperationsStandInTime
stand_in_time is t opening g fit meets n b op = record {
  kinds = allowed_below f rises _ _ (event t b).access (pos b) (kinds_below f rises t pos h b)
      (allowed_from_kinds t pos b (pos b) (event t b) _ refl refl (kinds_at t pos b h) parts.0.0);
  carried = may_below f rises _ _ (registers_at is b) (event t b).access (pos b) (fit b) (carried_below f rises is t pos fit h b)
      (allowed_from_respected is t g b (pos b) (event t b) (registers_at is b) _ refl refl (fit b) refl (carried_at is t pos fit b h) parts.1.1);
  touched = λ x s c.
      let low = touched_below f rises t pos h x b in
      let high = rises (touched_before (λ j. pos j + 1) t h x b) (pos b)
      (max_below pos _ (touched_before (λ j. pos j + 1) t h x b) (pos b) (touched_at t pos b h x)
      (λ a w. let p = and_parts (is_operation (event t a)) (covers (event t a).access x) w.2 in
      parts.0.1 a p.0 (record { earlier = w.0; same_hart = w.1 }) (byte-overlap x s p.1 c))) in
      omega (arith, low, high);
}
  where
    pos : ℕ → ℕ
    pos = order_position g

    f : ℕ → ℕ
    f = timed n t g

    h : ℕ
    h = (event t b).hart

    rises : Rises f
    rises = timed_rises n t g

    parts : (RespectsKindsAt t pos b × RespectsBytesAt t pos b) × (RespectsPairAt t pos b × RespectsAt is t pos b)
    parts = parts_of_preserved is t pos b op (λ a oa before rule. meets.preserved a b oa op before rule)
