-- Preserved program order by the kinds of operations: the rules 4 to 7, as the checker takes them.
use Rattle.std.specs.Prelude.{◌≡◌, ℕ, ◌<◌, ◌≤◌, ◌&&◌, ◌||◌, Bool, true, false, max, if◌then◌else◌, List, slice_index_or}
use Rattle.round_schedule.specs.declared.access.Access.{Access}
use Rattle.round_schedule.specs.declared.access.Access.TheVariants.{Fence}
use Rattle.round_schedule.specs.declared.event.Event.{Event}
use Rattle.round_schedule.specs.Accesses.{loads, stores}
use Rattle.round_schedule.specs.Positions.{ProgramBefore, event}
use Rattle.memory_order.specs.Operations.{fence_orders, is_acquire, is_operation, is_release}
use Rattle.rule_checker.specs.declared.annotated.KindBounds.{KindBounds}
use Rattle.memory_order.specs.CheckingProgram.{orders_loads, orders_stores}

-- a fence that orders loads before loads, and one that orders loads before stores
abbrev pub loads_loads : Access → Bool
loads_loads (Fence before after mode p) = before.reads && after.reads
loads_loads _ = false

abbrev pub loads_stores : Access → Bool
loads_stores (Fence before after mode p) = before.reads && after.writes
loads_stores _ = false

abbrev pub is_annotated : Access → Bool
is_annotated a = is_acquire a || is_release a

pub data RuleByKind (t : List Event) (a b : ℕ) : Type 0 where
  kind-fenced : (f : ℕ) → ProgramBefore t a f → ProgramBefore t f b → fence_orders (event t f).access (event t a).access (event t b).access ≡ true → RuleByKind t a b
  kind-acquired : is_acquire (event t a).access ≡ true → RuleByKind t a b
  kind-released : is_release (event t b).access ≡ true → RuleByKind t a b
  kind-annotated : is_annotated (event t a).access ≡ true → is_annotated (event t b).access ≡ true → RuleByKind t a b

abbrev pub RespectsKindsAt : List Event → (ℕ → ℕ) → ℕ → Type 0
RespectsKindsAt t pos b = (a : ℕ) → is_operation (event t a) ≡ true → ProgramBefore t a b → RuleByKind t a b → pos a < pos b

abbrev pub RespectsKinds : List Event → (ℕ → ℕ) → Type 0
RespectsKinds t pos = (b : ℕ) → is_operation (event t b) ≡ true → RespectsKindsAt t pos b

abbrev pub no_kinds : KindBounds
no_kinds = record { loads = 0; stores = 0; acquires = 0; annotated = 0; load_load = 0; load_store = 0; store_load = 0; store_store = 0 }

-- what a list has of a hart, by its number
abbrev pub kinds_of : List KindBounds → ℕ → KindBounds
kinds_of l h = slice_index_or l h no_kinds

-- whether an operation may stand at a position
abbrev pub AllowedByKind : KindBounds → Access → ℕ → Type 0
AllowedByKind b a p =
    (b.acquires ≤ p) ×
    (loads a ≡ true → (b.load_load ≤ p) × (b.store_load ≤ p)) ×
    (stores a ≡ true → (b.load_store ≤ p) × (b.store_store ≤ p)) ×
    (is_release a ≡ true → (b.loads ≤ p) × (b.stores ≤ p)) ×
    (is_annotated a ≡ true → b.annotated ≤ p)

-- the bounds after one more event of the hart, which stands before the position next
abbrev pub kinds_after : KindBounds → Access → Bool → ℕ → KindBounds
kinds_after b a operation next = record {
  loads = (if loads a then max b.loads next else b.loads);
  stores = (if stores a then max b.stores next else b.stores);
  acquires = (if operation && is_acquire a then max b.acquires next else b.acquires);
  annotated = (if operation && is_annotated a then max b.annotated next else b.annotated);
  load_load = (if loads_loads a then max b.load_load b.loads else b.load_load);
  load_store = (if loads_stores a then max b.load_store b.loads else b.load_store);
  store_load = (if orders_loads a then max b.store_load b.stores else b.store_load);
  store_store = (if orders_stores a then max b.store_store b.stores else b.store_store);
}
