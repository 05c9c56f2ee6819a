-- The bounds by kinds say where fences and annotations let the later operations of a hart stand.
use Rattle.std.proofs.Common.{◌≡◌, ◌≢◌, ℕ, ◌+◌, ◌<◌, ◌≤◌, ◌==◌, ◌&&◌, ◌||◌, max, ◌⊎◌, Bool, true, false, if◌then◌else◌, List, refl, sym, ap, ◌∙◌, subst, inl, inr, arith}
use Rattle.std.proofs.lemmas.Bool.{and_from, and_parts, cases_lt, cases_eq, cond-true, cond-false, eq-eqb, ne_eqb}
use Rattle.rv64_decode.specs.declared.ordering.FenceMode.TheVariants.{Normal, Tso}
use Rattle.round_schedule.specs.declared.access.Access.{Access}
use Rattle.round_schedule.specs.declared.access.Access.TheVariants.{Load, Store, LoadReserved, StoreConditional, Atomic, Fence}
use Rattle.round_schedule.specs.declared.event.Event.{Event}
use Rattle.round_schedule.specs.Accesses.{loads, stores}
use Rattle.round_schedule.specs.Positions.{event}
use Rattle.memory_order.specs.Operations.{fence_orders, is_acquire, is_operation, is_release}
use Rattle.memory_order.proofs.Facts.{load_is_operation, store_is_operation}
use Rattle.rule_checker.specs.declared.annotated.KindBounds.{KindBounds}
use Rattle.memory_order.specs.Checking.{Earlier, IsMax}
use Rattle.rule_checker.specs.Kinds.{AllowedByKind, RespectsKindsAt, RuleByKind, is_annotated, kind-acquired, kind-annotated, kind-fenced, kind-released, kinds_after, loads_loads, loads_stores, no_kinds}
use Rattle.memory_order.specs.CheckingProgram.{orders_loads, orders_stores}
use Rattle.memory_order.proofs.Bounding.{below_max, earlier_none, earlier_step, max_alike, max_below, max_join_if, max_none}

-- ---- what fences order

-- how a fence orders a before b
data Ways (f a b : Access) : Type 0 where
  ll : loads_loads f ≡ true → loads a ≡ true → loads b ≡ true → Ways f a b
  ls : loads_stores f ≡ true → loads a ≡ true → stores b ≡ true → Ways f a b
  ss : orders_stores f ≡ true → stores a ≡ true → stores b ≡ true → Ways f a b
  sl : orders_loads f ≡ true → stores a ≡ true → loads b ≡ true → Ways f a b

or_four : (p q r s : Bool) → (p || q || r || s) ≡ true → ((p ≡ true) ⊎ (q ≡ true)) ⊎ ((r ≡ true) ⊎ (s ≡ true))
or_four true q r s h = inl (inl refl)
or_four false true r s h = inl (inr refl)
or_four false false true s h = inr (inl refl)
or_four false false false true h = inr (inr refl)
or_four false false false false h = cc

four_from : (p q r s : Bool) → ((p ≡ true) ⊎ (q ≡ true)) ⊎ ((r ≡ true) ⊎ (s ≡ true)) → (p || q || r || s) ≡ true
four_from true q r s h = refl
four_from false true r s h = refl
four_from false false true s h = refl
four_from false false false true h = refl
four_from false false false false (inl (inl h)) = h
four_from false false false false (inl (inr h)) = h
four_from false false false false (inr (inl h)) = h
four_from false false false false (inr (inr h)) = h

three : (a b c d : Bool) → (a && b && c && d) ≡ true → ((a && c) ≡ true) × (b ≡ true) × (d ≡ true)
three a b c d h = (grind arith, grind arith, grind arith)

five : (a b c d m : Bool) → (a && b && c && d && m) ≡ true → ((a && c && m) ≡ true) × (b ≡ true) × (d ≡ true)
five a b c d m h = (grind arith, grind arith, grind arith)

from_three : (a b c d : Bool) → (a && c) ≡ true → b ≡ true → d ≡ true → (a && b && c && d) ≡ true
from_three a b c d h k l = grind arith

from_five : (a b c d m : Bool) → (a && c && m) ≡ true → b ≡ true → d ≡ true → (a && b && c && d && m) ≡ true
from_five a b c d m h k l = grind arith

fence_ways : (f a b : Access) → fence_orders f a b ≡ true → Ways f a b
fence_ways (Load w p x r) a b h = cc
fence_ways (Store w p x v) a b h = cc
fence_ways (LoadReserved w o p x r) a b h = cc
fence_ways (StoreConditional w o p x v) a b h = cc
fence_ways (Atomic w o p x r v) a b h = cc
fence_ways (Fence c d Normal p) a b h = elim (or_four (c.reads && loads a && d.reads && loads b) (c.reads && loads a && d.writes && stores b) (c.writes && stores a && d.writes && stores b) (c.writes && stores a && d.reads && loads b && true) h) [
  | inl u ↦ elim u [
    | inl k ↦ let q = three c.reads (loads a) d.reads (loads b) k in ll q.0 q.1 q.2
    | inr k ↦ let q = three c.reads (loads a) d.writes (stores b) k in ls q.0 q.1 q.2
  ]
  | inr u ↦ elim u [
    | inl k ↦ let q = three c.writes (stores a) d.writes (stores b) k in ss q.0 q.1 q.2
    | inr k ↦ let q = five c.writes (stores a) d.reads (loads b) true k in sl q.0 q.1 q.2
  ]
]
fence_ways (Fence c d Tso p) a b h = elim (or_four (c.reads && loads a && d.reads && loads b) (c.reads && loads a && d.writes && stores b) (c.writes && stores a && d.writes && stores b) (c.writes && stores a && d.reads && loads b && false) h) [
  | inl u ↦ elim u [
    | inl k ↦ let q = three c.reads (loads a) d.reads (loads b) k in ll q.0 q.1 q.2
    | inr k ↦ let q = three c.reads (loads a) d.writes (stores b) k in ls q.0 q.1 q.2
  ]
  | inr u ↦ elim u [
    | inl k ↦ let q = three c.writes (stores a) d.writes (stores b) k in ss q.0 q.1 q.2
    | inr k ↦ let q = five c.writes (stores a) d.reads (loads b) false k in sl q.0 q.1 q.2
  ]
]

not_fence : (A : Type 0) → false ≡ true → A
not_fence A h = cc

ways_fence : (f a b : Access) → Ways f a b → fence_orders f a b ≡ true
ways_fence (Load w p x r) a b (ll h k l) = not_fence _ h
ways_fence (Load w p x r) a b (ls h k l) = not_fence _ h
ways_fence (Load w p x r) a b (ss h k l) = not_fence _ h
ways_fence (Load w p x r) a b (sl h k l) = not_fence _ h
ways_fence (Store w p x v) a b (ll h k l) = not_fence _ h
ways_fence (Store w p x v) a b (ls h k l) = not_fence _ h
ways_fence (Store w p x v) a b (ss h k l) = not_fence _ h
ways_fence (Store w p x v) a b (sl h k l) = not_fence _ h
ways_fence (LoadReserved w o p x r) a b (ll h k l) = not_fence _ h
ways_fence (LoadReserved w o p x r) a b (ls h k l) = not_fence _ h
ways_fence (LoadReserved w o p x r) a b (ss h k l) = not_fence _ h
ways_fence (LoadReserved w o p x r) a b (sl h k l) = not_fence _ h
ways_fence (StoreConditional w o p x v) a b (ll h k l) = not_fence _ h
ways_fence (StoreConditional w o p x v) a b (ls h k l) = not_fence _ h
ways_fence (StoreConditional w o p x v) a b (ss h k l) = not_fence _ h
ways_fence (StoreConditional w o p x v) a b (sl h k l) = not_fence _ h
ways_fence (Atomic w o p x r v) a b (ll h k l) = not_fence _ h
ways_fence (Atomic w o p x r v) a b (ls h k l) = not_fence _ h
ways_fence (Atomic w o p x r v) a b (ss h k l) = not_fence _ h
ways_fence (Atomic w o p x r v) a b (sl h k l) = not_fence _ h
ways_fence (Fence c d Normal p) a b w = four_from (c.reads && loads a && d.reads && loads b) (c.reads && loads a && d.writes && stores b) (c.writes && stores a && d.writes && stores b) (c.writes && stores a && d.reads && loads b && true) (way w)
  where
    way : Ways (Fence c d Normal p) a b → (((c.reads && loads a && d.reads && loads b) ≡ true) ⊎ ((c.reads && loads a && d.writes && stores b) ≡ true)) ⊎ (((c.writes && stores a && d.writes && stores b) ≡ true) ⊎ ((c.writes && stores a && d.reads && loads b && true) ≡ true))
    way (ll h k l) = inl (inl (from_three c.reads (loads a) d.reads (loads b) h k l))
    way (ls h k l) = inl (inr (from_three c.reads (loads a) d.writes (stores b) h k l))
    way (ss h k l) = inr (inl (from_three c.writes (stores a) d.writes (stores b) h k l))
    way (sl h k l) = inr (inr (from_five c.writes (stores a) d.reads (loads b) true h k l))
ways_fence (Fence c d Tso p) a b w = four_from (c.reads && loads a && d.reads && loads b) (c.reads && loads a && d.writes && stores b) (c.writes && stores a && d.writes && stores b) (c.writes && stores a && d.reads && loads b && false) (way w)
  where
    way : Ways (Fence c d Tso p) a b → (((c.reads && loads a && d.reads && loads b) ≡ true) ⊎ ((c.reads && loads a && d.writes && stores b) ≡ true)) ⊎ (((c.writes && stores a && d.writes && stores b) ≡ true) ⊎ ((c.writes && stores a && d.reads && loads b && false) ≡ true))
    way (ll h k l) = inl (inl (from_three c.reads (loads a) d.reads (loads b) h k l))
    way (ls h k l) = inl (inr (from_three c.reads (loads a) d.writes (stores b) h k l))
    way (ss h k l) = inr (inl (from_three c.writes (stores a) d.writes (stores b) h k l))
    way (sl h k l) = inr (inr (from_five c.writes (stores a) d.reads (loads b) false h k l))

-- ---- operations before a fence

abbrev is_loading : Event → Bool
is_loading e = loads e.access

abbrev is_storing : Event → Bool
is_storing e = stores e.access

abbrev is_acquiring : Event → Bool
is_acquiring e = is_operation e && is_acquire e.access

abbrev is_marked : Event → Bool
is_marked e = is_operation e && is_annotated e.access

-- an operation of the hart before a fence of a kind, both before index i
abbrev Behind : (Access → Bool) → (Event → Bool) → List Event → ℕ → ℕ → ℕ → Type 0
Behind q k t h i a = (f : ℕ) × (f < i) × ((event t f).hart ≡ h) × (q (event t f).access ≡ true) × Earlier k t h f a

behind_none : (q : Access → Bool) (k : Event → Bool) (t : List Event) (pos : ℕ → ℕ) (h : ℕ) → IsMax pos (Behind q k t h 0) 0
behind_none q k t pos h = max_none pos (Behind q k t h 0) (λ a p. omega (arith, p.1))

behind_step : (q : Access → Bool) (k : Event → Bool) (t : List Event) (pos : ℕ → ℕ) (h i u v : ℕ) → (event t i).hart ≡ h →
    IsMax pos (Behind q k t h i) u → IsMax pos (Earlier k t h i) v → IsMax pos (Behind q k t h (i + 1)) (if q (event t i).access then max u v else u)
behind_step q k t pos h i u v here x y =
    max_join_if pos (Behind q k t h i) (Earlier k t h i) (Behind q k t h (i + 1)) u v (q (event t i).access)
    (λ a p. (p.0, omega (arith, p.1), p.2, p.3, p.4))
    (λ e a p. (i, omega arith, here, e, p))
    (λ a p. elim (cases_lt p.0 i) [
      | inl l ↦ inl (p.0, l, p.2, p.3, p.4)
      | inr l ↦
          let s : p.0 ≡ i = omega (arith, l, p.1) in
          inr (subst (λ n. Earlier k t h n a) s p.4, sym (ap (λ n. q (event t n).access) s) ∙ p.3)
    ])
    x (λ e. y)

behind_skip : (q : Access → Bool) (k : Event → Bool) (t : List Event) (pos : ℕ → ℕ) (h i u : ℕ) → (event t i).hart ≢ h → IsMax pos (Behind q k t h i) u → IsMax pos (Behind q k t h (i + 1)) u
behind_skip q k t pos h i u other x =
    max_alike pos (Behind q k t h i) (Behind q k t h (i + 1)) u
    (λ a p. (p.0, omega (arith, p.1), p.2, p.3, p.4))
    (λ a p. elim (cases_lt p.0 i) [
      | inl l ↦ (p.0, l, p.2, p.3, p.4)
      | inr l ↦ absurd (other (sym (ap (λ n. (event t n).hart) (let s : p.0 ≡ i = omega (arith, l, p.1) in s)) ∙ p.2))
    ])
    x

earlier_skip : (q : Event → Bool) (t : List Event) (pos : ℕ → ℕ) (h i v : ℕ) → (event t i).hart ≢ h → IsMax pos (Earlier q t h i) v → IsMax pos (Earlier q t h (i + 1)) v
earlier_skip q t pos h i v other x = earlier_step q t pos h i v 0 false (λ e. cc) (λ e _. absurd (other e)) (λ e. cc) x

earlier_here : (q : Event → Bool) (t : List Event) (pos : ℕ → ℕ) (h i v next : ℕ) → (event t i).hart ≡ h → next ≡ pos i + 1 → IsMax pos (Earlier q t h i) v →
    IsMax pos (Earlier q t h (i + 1)) (if q (event t i) then max v next else v)
earlier_here q t pos h i v next here at x = earlier_step q t pos h i v next (q (event t i)) (λ e. (here, e)) (λ _ e. e) (λ _. at) x

-- ---- the bounds of a hart before index i

pub record Kinds (t : List Event) (pos : ℕ → ℕ) (h i : ℕ) (b : KindBounds) : Type 0 where
  pub loads : IsMax pos (Earlier is_loading t h i) b.loads
  pub stores : IsMax pos (Earlier is_storing t h i) b.stores
  pub acquires : IsMax pos (Earlier is_acquiring t h i) b.acquires
  pub annotated : IsMax pos (Earlier is_marked t h i) b.annotated
  pub load_load : IsMax pos (Behind loads_loads is_loading t h i) b.load_load
  pub load_store : IsMax pos (Behind loads_stores is_loading t h i) b.load_store
  pub store_load : IsMax pos (Behind orders_loads is_storing t h i) b.store_load
  pub store_store : IsMax pos (Behind orders_stores is_storing t h i) b.store_store

pub kinds_none : (t : List Event) (pos : ℕ → ℕ) (h : ℕ) → Kinds t pos h 0 no_kinds
kinds_none t pos h = record {
  loads = earlier_none is_loading t pos h;
  stores = earlier_none is_storing t pos h;
  acquires = earlier_none is_acquiring t pos h;
  annotated = earlier_none is_marked t pos h;
  load_load = behind_none loads_loads is_loading t pos h;
  load_store = behind_none loads_stores is_loading t pos h;
  store_load = behind_none orders_loads is_storing t pos h;
  store_store = behind_none orders_stores is_storing t pos h;
}

kinds_skip : (t : List Event) (pos : ℕ → ℕ) (h i : ℕ) (b : KindBounds) → (event t i).hart ≢ h → Kinds t pos h i b → Kinds t pos h (i + 1) b
kinds_skip t pos h i b other x = record {
  loads = earlier_skip is_loading t pos h i b.loads other x.loads;
  stores = earlier_skip is_storing t pos h i b.stores other x.stores;
  acquires = earlier_skip is_acquiring t pos h i b.acquires other x.acquires;
  annotated = earlier_skip is_marked t pos h i b.annotated other x.annotated;
  load_load = behind_skip loads_loads is_loading t pos h i b.load_load other x.load_load;
  load_store = behind_skip loads_stores is_loading t pos h i b.load_store other x.load_store;
  store_load = behind_skip orders_loads is_storing t pos h i b.store_load other x.store_load;
  store_store = behind_skip orders_stores is_storing t pos h i b.store_store other x.store_store;
}

kinds_more : (t : List Event) (pos : ℕ → ℕ) (h i next : ℕ) (b : KindBounds) → (event t i).hart ≡ h → next ≡ pos i + 1 →
    Kinds t pos h i b → Kinds t pos h (i + 1) (kinds_after b (event t i).access (is_operation (event t i)) next)
kinds_more t pos h i next b here at x = record {
  loads = earlier_here is_loading t pos h i b.loads next here at x.loads;
  stores = earlier_here is_storing t pos h i b.stores next here at x.stores;
  acquires = earlier_here is_acquiring t pos h i b.acquires next here at x.acquires;
  annotated = earlier_here is_marked t pos h i b.annotated next here at x.annotated;
  load_load = behind_step loads_loads is_loading t pos h i b.load_load b.loads here x.load_load x.loads;
  load_store = behind_step loads_stores is_loading t pos h i b.load_store b.loads here x.load_store x.loads;
  store_load = behind_step orders_loads is_storing t pos h i b.store_load b.stores here x.store_load x.stores;
  store_store = behind_step orders_stores is_storing t pos h i b.store_store b.stores here x.store_store x.stores;
}

-- one event more
pub kinds_step : (t : List Event) (pos : ℕ → ℕ) (i next : ℕ) (e : Event) (b : KindBounds) (old new : ℕ → KindBounds) → e ≡ event t i → next ≡ pos i + 1 →
    b ≡ old e.hart → ((h : ℕ) → new h ≡ (if h == e.hart then kinds_after b e.access (is_operation e) next else old h)) →
    ((h : ℕ) → Kinds t pos h i (old h)) → (h : ℕ) → Kinds t pos h (i + 1) (new h)
kinds_step t pos i next e b old new is at known set x h = elim (cases_eq h e.hart) [
  | inl same ↦
      let n : new h ≡ kinds_after (old h) (event t i).access (is_operation (event t i)) next =
      set h ∙ cond-true (h == e.hart) (kinds_after b e.access (is_operation e) next) (old h) (eq-eqb h e.hart same)
      ∙ ap (λ c. kinds_after c e.access (is_operation e) next) (known ∙ ap old (sym same)) ∙ ap (λ (f : Event). kinds_after (old h) f.access (is_operation f) next) is in
      subst (Kinds t pos h (i + 1)) (sym n) (kinds_more t pos h i next (old h) (ap (λ (f : Event). f.hart) (sym is) ∙ sym same) at (x h))
  | inr other ↦
      let n : new h ≡ old h = set h ∙ cond-false (h == e.hart) (kinds_after b e.access (is_operation e) next) (old h) (ne_eqb h e.hart other) in
      subst (Kinds t pos h (i + 1)) (sym n) (kinds_skip t pos h i (old h) (λ s. other (sym s ∙ ap (λ (f : Event). f.hart) (sym is))) (x h))
]

-- ---- what the bounds say

load_or_store : (e : Event) → is_operation e ≡ true → (loads e.access ≡ true) ⊎ (stores e.access ≡ true)
load_or_store e h = either (loads e.access) (stores e.access) h
  where
    either : (p q : Bool) → (p || q) ≡ true → (p ≡ true) ⊎ (q ≡ true)
    either true q h = inl refl
    either false q h = inr h

pub kinds_from_allowed : (t : List Event) (pos : ℕ → ℕ) (b p : ℕ) (e : Event) (d : KindBounds) → e ≡ event t b → p ≡ pos b →
    Kinds t pos e.hart b d → AllowedByKind d e.access p → RespectsKindsAt t pos b
kinds_from_allowed t pos b p e d is at x allowed a op before rule = by_rule rule
  where
    hart : (n : ℕ) → (event t n).hart ≡ (event t b).hart → (event t n).hart ≡ e.hart
    hart n s = s ∙ ap (λ (f : Event). f.hart) (sym is)

    access : (q : Access → Bool) → q (event t b).access ≡ true → q e.access ≡ true
    access q h = ap (λ (f : Event). q f.access) is ∙ h

    under : (P : ℕ → Type 0) (v : ℕ) → IsMax pos P v → v ≤ p → P a → pos a < pos b
    under P v m l w = let u = below_max pos P v p m l a w in omega (arith, u, at)

    early : (q : Event → Bool) → q (event t a) ≡ true → Earlier q t e.hart b a
    early q h = (before.earlier, hart a before.same_hart, h)

    by_way : (f : ℕ) → (event t f).hart ≡ e.hart → a < f → f < b → Ways (event t f).access (event t a).access (event t b).access → pos a < pos b
    by_way f s l k (ll h u v) = under (Behind loads_loads is_loading t e.hart b) d.load_load x.load_load (allowed.1 (access loads v)).0 (f, k, s, h, (l, hart a before.same_hart, u))
    by_way f s l k (ls h u v) = under (Behind loads_stores is_loading t e.hart b) d.load_store x.load_store (allowed.2 (access stores v)).0 (f, k, s, h, (l, hart a before.same_hart, u))
    by_way f s l k (ss h u v) = under (Behind orders_stores is_storing t e.hart b) d.store_store x.store_store (allowed.2 (access stores v)).1 (f, k, s, h, (l, hart a before.same_hart, u))
    by_way f s l k (sl h u v) = under (Behind orders_loads is_storing t e.hart b) d.store_load x.store_load (allowed.1 (access loads v)).1 (f, k, s, h, (l, hart a before.same_hart, u))

    by_rule : RuleByKind t a b → pos a < pos b
    by_rule (kind-fenced f af fb o) = by_way f (hart f fb.same_hart) af.earlier fb.earlier (fence_ways (event t f).access (event t a).access (event t b).access o)
    by_rule (kind-acquired h) = under (Earlier is_acquiring t e.hart b) d.acquires x.acquires allowed.0 (early is_acquiring (and_from (is_operation (event t a)) (is_acquire (event t a).access) op h))
    by_rule (kind-released h) = elim (load_or_store (event t a) op) [
      | inl u ↦ under (Earlier is_loading t e.hart b) d.loads x.loads (allowed.3 (access is_release h)).0 (early is_loading u)
      | inr u ↦ under (Earlier is_storing t e.hart b) d.stores x.stores (allowed.3 (access is_release h)).1 (early is_storing u)
    ]
    by_rule (kind-annotated h k) = under (Earlier is_marked t e.hart b) d.annotated x.annotated (allowed.4 (access is_annotated k)) (early is_marked (and_from (is_operation (event t a)) (is_annotated (event t a).access) op h))

pub allowed_from_kinds : (t : List Event) (pos : ℕ → ℕ) (b p : ℕ) (e : Event) (d : KindBounds) → e ≡ event t b → p ≡ pos b →
    Kinds t pos e.hart b d → RespectsKindsAt t pos b → AllowedByKind d e.access p
allowed_from_kinds t pos b p e d is at x respected = (
  limit (Earlier is_acquiring t e.hart b) d.acquires x.acquires (λ a w. by a w.0 w.1 (parts a (is_acquire (event t a).access) w.2).0 (kind-acquired (parts a (is_acquire (event t a).access) w.2).1)),
  λ h. (
    limit (Behind loads_loads is_loading t e.hart b) d.load_load x.load_load (λ a w. way loads_loads is_loading a w (load_is_operation (event t a) w.4.2) (λ f q. ll q w.4.2 (access loads h))),
    limit (Behind orders_loads is_storing t e.hart b) d.store_load x.store_load (λ a w. way orders_loads is_storing a w (store_is_operation (event t a) w.4.2) (λ f q. sl q w.4.2 (access loads h))),
  ),
  λ h. (
    limit (Behind loads_stores is_loading t e.hart b) d.load_store x.load_store (λ a w. way loads_stores is_loading a w (load_is_operation (event t a) w.4.2) (λ f q. ls q w.4.2 (access stores h))),
    limit (Behind orders_stores is_storing t e.hart b) d.store_store x.store_store (λ a w. way orders_stores is_storing a w (store_is_operation (event t a) w.4.2) (λ f q. ss q w.4.2 (access stores h))),
  ),
  λ h. (
    limit (Earlier is_loading t e.hart b) d.loads x.loads (λ a w. by a w.0 w.1 (load_is_operation (event t a) w.2) (kind-released (access is_release h))),
    limit (Earlier is_storing t e.hart b) d.stores x.stores (λ a w. by a w.0 w.1 (store_is_operation (event t a) w.2) (kind-released (access is_release h))),
  ),
  λ h. limit (Earlier is_marked t e.hart b) d.annotated x.annotated (λ a w. by a w.0 w.1 (parts a (is_annotated (event t a).access) w.2).0 (kind-annotated (parts a (is_annotated (event t a).access) w.2).1 (access is_annotated h))),
)
  where
    hart : (n : ℕ) → (event t n).hart ≡ e.hart → (event t n).hart ≡ (event t b).hart
    hart n s = s ∙ ap (λ (f : Event). f.hart) is

    access : (q : Access → Bool) → q e.access ≡ true → q (event t b).access ≡ true
    access q h = ap (λ (f : Event). q f.access) (sym is) ∙ h

    parts : (a : ℕ) (q : Bool) → (is_operation (event t a) && q) ≡ true → (is_operation (event t a) ≡ true) × (q ≡ true)
    parts a q h = and_parts (is_operation (event t a)) q h

    limit : (P : ℕ → Type 0) (v : ℕ) → IsMax pos P v → ((a : ℕ) → P a → pos a < pos b) → v ≤ p
    limit P v m each = max_below pos P v p m (λ a w. let l = each a w in omega (arith, l, at))

    by : (a : ℕ) → a < b → (event t a).hart ≡ e.hart → is_operation (event t a) ≡ true → RuleByKind t a b → pos a < pos b
    by a l s op rule = respected a op (record { earlier = l; same_hart = hart a s }) rule

    way : (q : Access → Bool) (k : Event → Bool) (a : ℕ) → Behind q k t e.hart b a → is_operation (event t a) ≡ true →
        ((f : Access) → q f ≡ true → Ways f (event t a).access (event t b).access) → pos a < pos b
    way q k a w op ways =
        by a (let l = w.4.0 in let m = w.1 in omega (arith, l, m)) w.4.1 op
        (kind-fenced w.0 (record { earlier = w.4.0; same_hart = w.4.1 ∙ sym w.2 }) (record { earlier = w.1; same_hart = hart w.0 w.2 })
        (ways_fence (event t w.0).access (event t a).access (event t b).access (ways (event t w.0).access w.3)))
