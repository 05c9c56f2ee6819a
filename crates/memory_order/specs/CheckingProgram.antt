-- Preserved program order as the checker takes it: four rules in place of nine, and what a hart's earlier operations ask of its next.
use Rattle.std.specs.Prelude.{◌≡◌, ℕ, ◌<◌, ◌≤◌, ◌&&◌, Bool, true, false, not, max, if◌then◌else◌, List, slice_index_or}
use Rattle.round_schedule.specs.declared.access.Access.{Access}
use Rattle.round_schedule.specs.declared.access.Access.TheVariants.{Fence}
use Rattle.round_schedule.specs.declared.event.Event.{Event}
use Rattle.round_schedule.specs.Accesses.{loads, stores}
use Rattle.round_schedule.specs.Positions.{ProgramBefore, event, writes_at}
use Rattle.memory_order.specs.Operations.{fence_orders, is_normal, is_operation, is_plain_store, is_release}
use Rattle.memory_order.specs.declared.checking.program.HartBounds.{HartBounds}

-- a fence that orders stores before loads
abbrev pub orders_loads : Access → Bool
orders_loads (Fence before after mode p) = before.writes && after.reads && is_normal mode
orders_loads _ = false

-- a fence that orders stores before stores
abbrev pub orders_stores : Access → Bool
orders_stores (Fence before after mode p) = before.writes && after.writes
orders_stores _ = false

-- what orders a before b in program order, but for the rule on overlapping stores
pub data RuleButOverlap (t : List Event) (a b : ℕ) : Type 0 where
  by-other : is_plain_store (event t a).access ≡ false → RuleButOverlap t a b
  by-fence : (f : ℕ) → ProgramBefore t a f → ProgramBefore t f b → fence_orders (event t f).access (event t a).access (event t b).access ≡ true → RuleButOverlap t a b
  by-release : is_release (event t b).access ≡ true → RuleButOverlap t a b

-- what those rules order before the operation at b stands before it
abbrev pub RespectsAt : List Event → (ℕ → ℕ) → ℕ → Type 0
RespectsAt t pos b = (a : ℕ) → is_operation (event t a) ≡ true → ProgramBefore t a b → RuleButOverlap t a b → pos a < pos b

abbrev pub RespectsButOverlap : List Event → (ℕ → ℕ) → Type 0
RespectsButOverlap t pos = (b : ℕ) → is_operation (event t b) ≡ true → RespectsAt t pos b

-- stores of one hart to one byte stand as in the program
abbrev pub RespectsOverlap : List Event → (ℕ → ℕ) → Type 0
RespectsOverlap t pos = (a b x : ℕ) → ProgramBefore t a b → writes_at t a x ≡ true → writes_at t b x ≡ true → pos a < pos b

abbrev pub no_bounds : HartBounds
no_bounds = record { others = 0; stores = 0; before_loads = 0; before_stores = 0 }

-- what a list has of a hart, by its number
abbrev pub bounds_of : List HartBounds → ℕ → HartBounds
bounds_of l h = slice_index_or l h no_bounds

-- whether an operation may stand at a position
abbrev pub Allowed : HartBounds → Access → ℕ → Type 0
Allowed b a p = (b.others ≤ p) × (loads a ≡ true → b.before_loads ≤ p) × (stores a ≡ true → b.before_stores ≤ p) × (is_release a ≡ true → b.stores ≤ p)

-- the bounds after one more event of the hart, which stands before the position next
abbrev pub bounds_after : HartBounds → Event → ℕ → HartBounds
bounds_after b e next = record {
  others = (if is_operation e && not (is_plain_store e.access) then max b.others next else b.others);
  stores = (if is_plain_store e.access then max b.stores next else b.stores);
  before_loads = (if orders_loads e.access then max b.before_loads b.stores else b.before_loads);
  before_stores = (if orders_stores e.access then max b.before_stores b.stores else b.before_stores);
}
