-- The bounds that a hart's operations leave to its later ones say where preserved program order lets these stand.
use Rattle.std.proofs.Common.{◌≡◌, ◌≢◌, ℕ, ◌+◌, ◌<◌, ◌≤◌, ◌==◌, ◌&&◌, ◌||◌, not, max, ◌⊎◌, Bool, true, false, if◌then◌else◌, List, refl, sym, ap, ◌∙◌, subst, inl, inr, arith}
use Rattle.std.proofs.lemmas.Bool.{cases_lt, cases_eq, cases_Bool, cond-true, cond-false, eq-eqb, ne_eqb}
use Rattle.rv64_decode.specs.declared.ordering.FenceMode.TheVariants.{Normal, Tso}
use Rattle.round_schedule.specs.declared.access.Access.{Access}
use Rattle.round_schedule.specs.declared.access.Access.TheVariants.{Load, Store, LoadReserved, StoreConditional, Atomic, Fence}
use Rattle.round_schedule.specs.declared.event.Event.{Event}
use Rattle.round_schedule.specs.Accesses.{loads, stores}
use Rattle.round_schedule.specs.Positions.{event}
use Rattle.memory_order.specs.Operations.{fence_orders, is_operation, is_plain_store, is_release}
use Rattle.memory_order.specs.declared.checking.program.HartBounds.{HartBounds}
use Rattle.memory_order.specs.Checking.{Earlier, IsMax}
use Rattle.memory_order.specs.CheckingProgram.{Allowed, RespectsAt, RuleButOverlap, bounds_after, by-fence, by-other, by-release, no_bounds, orders_loads, orders_stores}
use Rattle.memory_order.proofs.Bounding.{below_max, earlier_none, earlier_step, max_alike, max_below, max_join_if, max_none}

-- ---- kinds

abbrev pub is_other : Event → Bool
is_other e = is_operation e && not (is_plain_store e.access)

abbrev pub is_plain : Event → Bool
is_plain e = is_plain_store e.access

plain_operation : (a : Access) → is_plain_store a ≡ true → (loads a || stores a) ≡ true
plain_operation (Load w p x r) h = cc
plain_operation (Store w p x v) h = refl
plain_operation (LoadReserved w o p x r) h = cc
plain_operation (StoreConditional w o p x v) h = cc
plain_operation (Atomic w o p x r v) h = cc
plain_operation (Fence b c m p) h = cc

pub plain_kinds : (a : Access) → is_plain_store a ≡ true → (loads a ≡ false) × (stores a ≡ true)
plain_kinds (Load w p x r) h = cc
plain_kinds (Store w p x v) h = (refl, refl)
plain_kinds (LoadReserved w o p x r) h = cc
plain_kinds (StoreConditional w o p x v) h = cc
plain_kinds (Atomic w o p x r v) h = cc
plain_kinds (Fence b c m p) h = cc

normal : (br bw ar aw la sa lb sb : Bool) → ((br && la && ar && lb) || (br && la && aw && sb) || (bw && sa && aw && sb) || (bw && sa && ar && lb && true)) ≡ true → la ≡ false →
    (((bw && ar && true) ≡ true) × (lb ≡ true)) ⊎ (((bw && aw) ≡ true) × (sb ≡ true))
normal br bw ar aw la sa true sb h l = elim (cases_Bool (bw && ar && true)) [ inl a ↦ inl (a, refl) | inr n ↦ inr (grind arith, grind arith) ]
normal br bw ar aw la sa false sb h l = inr (grind arith, grind arith)

total : (br bw ar aw la sa lb sb : Bool) → ((br && la && ar && lb) || (br && la && aw && sb) || (bw && sa && aw && sb) || (bw && sa && ar && lb && false)) ≡ true → la ≡ false →
    (((bw && ar && false) ≡ true) × (lb ≡ true)) ⊎ (((bw && aw) ≡ true) × (sb ≡ true))
total br bw ar aw la sa lb sb h l = inr (grind arith, grind arith)

-- a fence that orders what does not load orders stores before loads, or before stores
fence_split : (f a b : Access) → fence_orders f a b ≡ true → loads a ≡ false → ((orders_loads f ≡ true) × (loads b ≡ true)) ⊎ ((orders_stores f ≡ true) × (stores b ≡ true))
fence_split (Load w p x r) a b h l = cc
fence_split (Store w p x v) a b h l = cc
fence_split (LoadReserved w o p x r) a b h l = cc
fence_split (StoreConditional w o p x v) a b h l = cc
fence_split (Atomic w o p x r v) a b h l = cc
fence_split (Fence c d Normal p) a b h l = normal c.reads c.writes d.reads d.writes (loads a) (stores a) (loads b) (stores b) h l
fence_split (Fence c d Tso p) a b h l = total c.reads c.writes d.reads d.writes (loads a) (stores a) (loads b) (stores b) h l

fence_loads : (f a b : Access) → orders_loads f ≡ true → stores a ≡ true → loads b ≡ true → fence_orders f a b ≡ true
fence_loads (Load w p x r) a b h s l = cc
fence_loads (Store w p x v) a b h s l = cc
fence_loads (LoadReserved w o p x r) a b h s l = cc
fence_loads (StoreConditional w o p x v) a b h s l = cc
fence_loads (Atomic w o p x r v) a b h s l = cc
fence_loads (Fence c d Normal p) a b h s l = all c.reads c.writes d.reads d.writes (loads a) (stores a) (loads b) (stores b) h s l
  where
    all : (br bw ar aw la sa lb sb : Bool) → (bw && ar && true) ≡ true → sa ≡ true → lb ≡ true →
        ((br && la && ar && lb) || (br && la && aw && sb) || (bw && sa && aw && sb) || (bw && sa && ar && lb && true)) ≡ true
    all br bw ar aw la sa lb sb h s l = grind arith
fence_loads (Fence c d Tso p) a b h s l = absurd (none c.writes d.reads h)
  where
    none : (bw ar : Bool) → (bw && ar && false) ≡ true → ⊥
    none bw ar h = grind arith

store_test : (br bw ar aw la sa lb sb m : Bool) → (bw && aw) ≡ true → sa ≡ true → sb ≡ true →
    ((br && la && ar && lb) || (br && la && aw && sb) || (bw && sa && aw && sb) || (bw && sa && ar && lb && m)) ≡ true
store_test br bw ar aw la sa lb sb m h s l = grind arith

fence_stores : (f a b : Access) → orders_stores f ≡ true → stores a ≡ true → stores b ≡ true → fence_orders f a b ≡ true
fence_stores (Load w p x r) a b h s l = cc
fence_stores (Store w p x v) a b h s l = cc
fence_stores (LoadReserved w o p x r) a b h s l = cc
fence_stores (StoreConditional w o p x v) a b h s l = cc
fence_stores (Atomic w o p x r v) a b h s l = cc
fence_stores (Fence c d Normal p) a b h s l = store_test c.reads c.writes d.reads d.writes (loads a) (stores a) (loads b) (stores b) true h s l
fence_stores (Fence c d Tso p) a b h s l = store_test c.reads c.writes d.reads d.writes (loads a) (stores a) (loads b) (stores b) false h s l

-- ---- plain stores before a fence

-- a plain store of the hart before a fence of a kind, both before index i
abbrev Behind : (Access → Bool) → List Event → ℕ → ℕ → ℕ → Type 0
Behind q t h i a = (f : ℕ) × (f < i) × ((event t f).hart ≡ h) × (q (event t f).access ≡ true) × Earlier is_plain t h f a

behind_step : (q : Access → Bool) (t : List Event) (pos : ℕ → ℕ) (h i u v : ℕ) → (event t i).hart ≡ h →
    IsMax pos (Behind q t h i) u → IsMax pos (Earlier is_plain t h i) v → IsMax pos (Behind q t h (i + 1)) (if q (event t i).access then max u v else u)
behind_step q t pos h i u v here x y =
    max_join_if pos (Behind q t h i) (Earlier is_plain t h i) (Behind q t h (i + 1)) u v (q (event t i).access)
    (λ a p. (p.0, omega (arith, p.1), p.2, p.3, p.4))
    (λ e a p. (i, omega arith, here, e, p))
    (λ a p. elim (cases_lt p.0 i) [
      | inl l ↦ inl (p.0, l, p.2, p.3, p.4)
      | inr l ↦
          let s : p.0 ≡ i = omega (arith, l, p.1) in
          inr (subst (λ n. Earlier is_plain t h n a) s p.4, sym (ap (λ n. q (event t n).access) s) ∙ p.3)
    ])
    x (λ e. y)

behind_skip : (q : Access → Bool) (t : List Event) (pos : ℕ → ℕ) (h i u : ℕ) → (event t i).hart ≢ h → IsMax pos (Behind q t h i) u → IsMax pos (Behind q t h (i + 1)) u
behind_skip q t pos h i u other x =
    max_alike pos (Behind q t h i) (Behind q t h (i + 1)) u
    (λ a p. (p.0, omega (arith, p.1), p.2, p.3, p.4))
    (λ a p. elim (cases_lt p.0 i) [
      | inl l ↦ (p.0, l, p.2, p.3, p.4)
      | inr l ↦ absurd (other (sym (ap (λ n. (event t n).hart) (let s : p.0 ≡ i = omega (arith, l, p.1) in s)) ∙ p.2))
    ])
    x

-- ---- the four bounds of a hart before index i

pub record Bounded (t : List Event) (pos : ℕ → ℕ) (h i : ℕ) (b : HartBounds) : Type 0 where
  pub others : IsMax pos (Earlier is_other t h i) b.others
  pub stores : IsMax pos (Earlier is_plain t h i) b.stores
  pub before_loads : IsMax pos (Behind orders_loads t h i) b.before_loads
  pub before_stores : IsMax pos (Behind orders_stores t h i) b.before_stores

pub bounded_none : (t : List Event) (pos : ℕ → ℕ) (h : ℕ) → Bounded t pos h 0 no_bounds
bounded_none t pos h = record {
  others = earlier_none is_other t pos h;
  stores = earlier_none is_plain t pos h;
  before_loads = max_none pos (Behind orders_loads t h 0) (λ a p. omega (arith, p.1));
  before_stores = max_none pos (Behind orders_stores t h 0) (λ a p. omega (arith, p.1));
}

other_operation : (e : Event) → is_other e ≡ true → is_operation e ≡ true
other_operation e h = all (is_operation e) (is_plain_store e.access) h
  where
    all : (a b : Bool) → (a && not b) ≡ true → a ≡ true
    all a b h = grind arith

bounded_skip : (t : List Event) (pos : ℕ → ℕ) (h i : ℕ) (b : HartBounds) → (event t i).hart ≢ h → Bounded t pos h i b → Bounded t pos h (i + 1) b
bounded_skip t pos h i b other x = record {
  others = earlier_step is_other t pos h i b.others 0 false (λ e. cc) (λ e _. absurd (other e)) (λ e. cc) x.others;
  stores = earlier_step is_plain t pos h i b.stores 0 false (λ e. cc) (λ e _. absurd (other e)) (λ e. cc) x.stores;
  before_loads = behind_skip orders_loads t pos h i b.before_loads other x.before_loads;
  before_stores = behind_skip orders_stores t pos h i b.before_stores other x.before_stores;
}

bounded_more : (t : List Event) (pos : ℕ → ℕ) (h i next : ℕ) (b : HartBounds) → (event t i).hart ≡ h → next ≡ pos i + 1 →
    Bounded t pos h i b → Bounded t pos h (i + 1) (bounds_after b (event t i) next)
bounded_more t pos h i next b here at x = record {
  others = earlier_step is_other t pos h i b.others next (is_other (event t i)) (λ e. (here, e)) (λ _ e. e) (λ _. at) x.others;
  stores = earlier_step is_plain t pos h i b.stores next (is_plain (event t i)) (λ e. (here, e)) (λ _ e. e) (λ _. at) x.stores;
  before_loads = behind_step orders_loads t pos h i b.before_loads b.stores here x.before_loads x.stores;
  before_stores = behind_step orders_stores t pos h i b.before_stores b.stores here x.before_stores x.stores;
}

-- one event more
pub bounded_step : (t : List Event) (pos : ℕ → ℕ) (i next : ℕ) (e : Event) (b : HartBounds) (old new : ℕ → HartBounds) → e ≡ event t i → next ≡ pos i + 1 →
    b ≡ old e.hart → ((h : ℕ) → new h ≡ (if h == e.hart then bounds_after b e next else old h)) →
    ((h : ℕ) → Bounded t pos h i (old h)) → (h : ℕ) → Bounded t pos h (i + 1) (new h)
bounded_step t pos i next e b old new is at known set x h = elim (cases_eq h e.hart) [
  | inl same ↦
      let n : new h ≡ bounds_after (old h) (event t i) next =
      set h ∙ cond-true (h == e.hart) (bounds_after b e next) (old h) (eq-eqb h e.hart same)
      ∙ ap (λ c. bounds_after c e next) (known ∙ ap old (sym same)) ∙ ap (λ f. bounds_after (old h) f next) is in
      subst (Bounded t pos h (i + 1)) (sym n) (bounded_more t pos h i next (old h) (ap (λ (f : Event). f.hart) (sym is) ∙ sym same) at (x h))
  | inr other ↦
      let n : new h ≡ old h = set h ∙ cond-false (h == e.hart) (bounds_after b e next) (old h) (ne_eqb h e.hart other) in
      subst (Bounded t pos h (i + 1)) (sym n) (bounded_skip t pos h i (old h) (λ s. other (sym s ∙ ap (λ (f : Event). f.hart) (sym is))) (x h))
]

-- ---- what the bounds say

pub respected_from_allowed : (t : List Event) (pos : ℕ → ℕ) (b p : ℕ) (e : Event) (d : HartBounds) → e ≡ event t b → p ≡ pos b →
    Bounded t pos e.hart b d → Allowed d e.access p → RespectsAt t pos b
respected_from_allowed t pos b p e d is at x allowed a op before rule = by_kind (cases_Bool (is_plain (event t a)))
  where
    hart : (event t a).hart ≡ e.hart
    hart = before.same_hart ∙ ap (λ (f : Event). f.hart) (sym is)

    access : e.access ≡ (event t b).access
    access = ap (λ (f : Event). f.access) is

    other : is_plain (event t a) ≡ false → pos a < pos b
    other n =
        let o : is_other (event t a) ≡ true = all (is_operation (event t a)) (is_plain (event t a)) op n in
        let l = below_max pos (Earlier is_other t e.hart b) d.others p x.others allowed.0 a (before.earlier, hart, o) in
        omega (arith, l, at)
      where
        all : (u v : Bool) → u ≡ true → v ≡ false → (u && not v) ≡ true
        all u v h k = grind arith

    plain : is_plain (event t a) ≡ true → RuleButOverlap t a b → pos a < pos b
    plain h (by-other n) = absurd (let c : true ≡ false = sym h ∙ n in cc)
    plain h (by-fence f af fb o) = elim (fence_split (event t f).access (event t a).access (event t b).access o (plain_kinds (event t a).access h).0) [
      | inl s ↦
          let l = below_max pos (Behind orders_loads t e.hart b) d.before_loads p x.before_loads (allowed.1 (ap loads access ∙ s.1)) a
          (f, fb.earlier, fb.same_hart ∙ ap (λ (g : Event). g.hart) (sym is), s.0, (af.earlier, hart, h)) in
          omega (arith, l, at)
      | inr s ↦
          let l = below_max pos (Behind orders_stores t e.hart b) d.before_stores p x.before_stores (allowed.2 (ap stores access ∙ s.1)) a
          (f, fb.earlier, fb.same_hart ∙ ap (λ (g : Event). g.hart) (sym is), s.0, (af.earlier, hart, h)) in
          omega (arith, l, at)
    ]
    plain h (by-release r) =
        let l = below_max pos (Earlier is_plain t e.hart b) d.stores p x.stores (allowed.3 (ap is_release access ∙ r)) a (before.earlier, hart, h) in
        omega (arith, l, at)

    by_kind : (is_plain (event t a) ≡ true) ⊎ (is_plain (event t a) ≡ false) → pos a < pos b
    by_kind (inl h) = plain h rule
    by_kind (inr n) = other n

pub allowed_from_respected : (t : List Event) (pos : ℕ → ℕ) (b p : ℕ) (e : Event) (d : HartBounds) → e ≡ event t b → p ≡ pos b →
    Bounded t pos e.hart b d → RespectsAt t pos b → Allowed d e.access p
allowed_from_respected t pos b p e d is at x respected = (others, loading, storing, releasing)
  where
    hart : (n : ℕ) → (event t n).hart ≡ e.hart → (event t n).hart ≡ (event t b).hart
    hart n h = h ∙ ap (λ (f : Event). f.hart) is

    access : e.access ≡ (event t b).access
    access = ap (λ (f : Event). f.access) is

    below : (a : ℕ) → pos a < pos b → pos a < p
    below a l = omega (arith, l, at)

    others : d.others ≤ p
    others = max_below pos (Earlier is_other t e.hart b) d.others p x.others
        (λ a q. below a (respected a (other_operation (event t a) q.2) (record { earlier = q.0; same_hart = hart a q.1 }) (by-other (not_plain (is_operation (event t a)) (is_plain (event t a)) q.2))))
      where
        not_plain : (u v : Bool) → (u && not v) ≡ true → v ≡ false
        not_plain u v h = grind arith

    -- a plain store before a fence
    fenced : (q : Access → Bool) → ((f a : ℕ) → q (event t f).access ≡ true → stores (event t a).access ≡ true → fence_orders (event t f).access (event t a).access (event t b).access ≡ true) →
        (a : ℕ) → Behind q t e.hart b a → pos a < p
    fenced q orders a (f, l, h, o, early) =
        let k = plain_kinds (event t a).access early.2 in
        below a (respected a (plain_operation (event t a).access early.2) (record { earlier = omega (arith, l, early.0); same_hart = hart a early.1 })
        (by-fence f (record { earlier = early.0; same_hart = early.1 ∙ sym h }) (record { earlier = l; same_hart = hart f h }) (orders f a o k.1)))

    loading : loads e.access ≡ true → d.before_loads ≤ p
    loading h = max_below pos (Behind orders_loads t e.hart b) d.before_loads p x.before_loads
        (fenced orders_loads (λ f a o s. fence_loads (event t f).access (event t a).access (event t b).access o s (sym (ap loads access) ∙ h)))

    storing : stores e.access ≡ true → d.before_stores ≤ p
    storing h = max_below pos (Behind orders_stores t e.hart b) d.before_stores p x.before_stores
        (fenced orders_stores (λ f a o s. fence_stores (event t f).access (event t a).access (event t b).access o s (sym (ap stores access) ∙ h)))

    releasing : is_release e.access ≡ true → d.stores ≤ p
    releasing h = max_below pos (Earlier is_plain t e.hart b) d.stores p x.stores
        (λ a q. below a (respected a (plain_operation (event t a).access q.2) (record { earlier = q.0; same_hart = hart a q.1 }) (by-release (sym (ap is_release access) ∙ h))))
