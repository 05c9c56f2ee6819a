-- Stores of other harts between an LR and its SC.
use Rattle.std.proofs.Common.{◌≡◌, ℕ, suc, ◌+◌, ◌<◌, ◌≤◌, ◌==◌, ◌||◌, Bool, true, false, if◌then◌else◌, List, [], ◌∷◌, length, Option, Some, None, MatchOption, inl, inr, subst, arith}
use Rattle.std.proofs.lemmas.Bool.{cases_lt}
use Rattle.round_schedule.specs.declared.access.Access.{Access}
use Rattle.round_schedule.specs.declared.event.Event.{Event}
use Rattle.round_schedule.specs.Accesses.{is_lr, is_sc}
use Rattle.round_schedule.specs.Positions.{event}
use Rattle.memory_order.specs.Operations.{is_operation}
use Rattle.memory_order.specs.Orders.{ListsOperations, order_position}
use Rattle.memory_order.specs.Rvwmo.{AtomicityAxiom, IsPaired, IsSource, IsUndisturbed}
use Rattle.memory_order.proofs.Facts.{or_left, store_is_operation, within}
use Rattle.memory_order.proofs.Sources.{one_position, one_source, store_at}
use Rattle.refusal_reasons.specs.Reasons.{AtomicFor, AreUndisturbed, LiesBetween}

pub undisturbed_from_none : (t : List Event) (pos : ℕ → ℕ) (c x : ℕ) (s : Option ℕ) → MatchOption s (Unit {0}) (λ n. pos n < pos c) →
    ((v : ℕ) → v < length t → LiesBetween t pos c x s v → ⊥) → IsUndisturbed t pos c x s
undisturbed_from_none t pos c x None early none = λ v w o b.
    none v (within t v (store_at t v x w)) (record { writes = w; other = o; before = b; after = tt })
undisturbed_from_none t pos c x (Some s) early none =
    (early, λ v w o a b. none v (within t v (store_at t v x w)) (record { writes = w; other = o; before = b; after = a }))

-- no index stands past the order's length
length_step : (b : Bool) (n m : ℕ) → n ≤ m → (if b then 0 else suc n) ≤ suc m
length_step true n m h = omega arith
length_step false n m h = omega (arith, h)

pub position_at_most : (g : List ℕ) (a : ℕ) → order_position g a ≤ length g
position_at_most [] a = omega arith
position_at_most (b ∷ g) a = length_step (b == a) (order_position g a) (length g) (position_at_most g a)

-- what lies between stands behind the source
pub lies_past : (t : List Event) (pos : ℕ → ℕ) (c x : ℕ) (s : Option ℕ) (v start : ℕ) → MatchOption s (start ≡ 0) (λ n. start ≡ pos n + 1) →
    LiesBetween t pos c x s v → pos v < start → ⊥
lies_past t pos c x None v start e b l = omega (arith, e, l)
lies_past t pos c x (Some n) v start e b l = let k = b.after in omega (arith, e, l, k)

-- nothing lies between below a position, nor at it
pub none_at_next : (t : List Event) (g : List ℕ) (c x : ℕ) (s : Option ℕ) (m p : ℕ) → ListsOperations t g → is_operation (event t m) ≡ true → order_position g m ≡ p →
    ((v : ℕ) → order_position g v < p → LiesBetween t (order_position g) c x s v → ⊥) → (LiesBetween t (order_position g) c x s m → ⊥) →
    (v : ℕ) → order_position g v < p + 1 → LiesBetween t (order_position g) c x s v → ⊥
none_at_next t g c x s m p lists op at old here v l b = elim (cases_lt (order_position g v) p) [
  | inl low ↦ old v low b
  | inr high ↦
      let same : v ≡ m = one_position t g v m lists (store_at t v x b.writes) op (omega (arith, l, high, at)) in
      here (subst (LiesBetween t (order_position g) c x s) same b)
]

one_pair : (t : List Event) (l m c : ℕ) → IsPaired t l c → IsPaired t m c → l ≡ m
one_pair t l m c a b = elim (cases_lt l m) [
  | inl u ↦ absurd (a.none_between m u b.in_program.earlier b.in_program.same_hart (lr_reserves (event t m).access b.reserved))
  | inr u ↦ elim (cases_lt m l) [
    | inl v ↦ absurd (b.none_between l v a.in_program.earlier a.in_program.same_hart (lr_reserves (event t l).access a.reserved))
    | inr v ↦ omega (arith, u, v)
  ]
]
  where
    lr_reserves : (a : Access) → is_lr a ≡ true → (is_lr a || is_sc a) ≡ true
    lr_reserves a h = or_left (is_lr a) (is_sc a) h

-- the one LR that an SC is paired with
pub atomic_for_pair : (t : List Event) (pos : ℕ → ℕ) (l c : ℕ) → IsPaired t l c → AreUndisturbed t pos l c → AtomicFor t pos c
atomic_for_pair t pos l c pair kept m other s = subst (λ n. AreUndisturbed t pos n c) (one_pair t l m c pair other) kept

-- the one source of a byte
pub undisturbed_for_all : (t : List Event) (g : List ℕ) (l c x : ℕ) (s u : Option ℕ) → ListsOperations t g → IsSource t (order_position g) l x s → IsUndisturbed t (order_position g) c x s →
    IsSource t (order_position g) l x u → IsUndisturbed t (order_position g) c x u
undisturbed_for_all t g l c x s u lists source kept other = subst (IsUndisturbed t (order_position g) c x) (one_source t g l x s u lists source other) kept

pub atomic_from_all : (t : List Event) (pos : ℕ → ℕ) → ((c : ℕ) → c < length t → AtomicFor t pos c) → AtomicityAxiom t pos
atomic_from_all t pos all l c x s paired store reads source =
    all c (within t c (store_is_operation (event t c) store)) l paired store x s reads source
