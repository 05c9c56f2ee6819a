-- The memory model RVWMO (manual, section 14.1), for a trace and an order of its memory operations.
-- The axioms speak of an order by `pos`, the position in it of each index of the trace.
use Rattle.std.specs.Prelude.{◌≡◌, ◌≢◌, ℕ, ◌<◌, ◌⊎◌, ◌||◌, true, false, List, Option, Some, None}
use Rattle.round_schedule.specs.declared.event.Event.{Event}
use Rattle.round_schedule.specs.Accesses.{byte_read, is_lr, is_sc}
use Rattle.round_schedule.specs.Positions.{IsLatest, ProgramBefore, event, reads_at, source_byte, writes_at}
use Rattle.memory_order.specs.Operations.{covers, fence_orders, is_acquire, is_amo, is_lr_or_sc, is_operation, is_plain_store, is_release, is_store}
use Rattle.memory_order.specs.Orders.{ListsOperations, order_position}

-- ---- load value: a byte is from the latest of the stores that precede the load in the order or in program order

-- the event at w writes byte x, and precedes the one at r in the order or in program order
abbrev pub MaySee : List Event → (ℕ → ℕ) → ℕ → ℕ → ℕ → Type 0
MaySee t pos r x w = (writes_at t w x ≡ true) × ((pos w < pos r) ⊎ ProgramBefore t w r)

-- s is the index of the store that the byte x of the load at r is from, none where it is the opening byte
abbrev pub IsSource : List Event → (ℕ → ℕ) → ℕ → ℕ → Option ℕ → Type 0
IsSource t pos r x s = IsLatest pos (MaySee t pos r x) s

abbrev pub LoadValueAxiom : List Event → (ℕ → ℕ) → (ℕ → ℕ) → Type 0
LoadValueAxiom t opening pos =
    (r x : ℕ) → reads_at t r x ≡ true →
    (s : Option ℕ) × IsSource t pos r x s × (byte_read (event t r).access x ≡ source_byte t opening x s)

-- ---- atomicity: between the source of a paired LR and its SC, no other hart stores

-- the SC at c follows the LR at l in program order, with no other LR or SC of the hart between
pub record IsPaired (t : List Event) (l c : ℕ) : Type 0 where
  pub reserved : is_lr (event t l).access ≡ true
  pub conditional : is_sc (event t c).access ≡ true
  pub in_program : ProgramBefore t l c
  pub none_between : (k : ℕ) → l < k → k < c → (event t k).hart ≡ (event t c).hart → is_lr_or_sc (event t k).access ≡ true → ⊥

-- from the source s of byte x to the SC at c, no other hart stores to the byte; the opening bytes precede all stores
abbrev pub IsUndisturbed : List Event → (ℕ → ℕ) → ℕ → ℕ → Option ℕ → Type 0
IsUndisturbed t pos c x None = (v : ℕ) → writes_at t v x ≡ true → (event t v).hart ≢ (event t c).hart → pos v < pos c → ⊥
IsUndisturbed t pos c x (Some s) =
    (pos s < pos c) ×
    ((v : ℕ) → writes_at t v x ≡ true → (event t v).hart ≢ (event t c).hart → pos s < pos v → pos v < pos c → ⊥)

abbrev pub AtomicityAxiom : List Event → (ℕ → ℕ) → Type 0
AtomicityAxiom t pos =
    (l c x : ℕ) (s : Option ℕ) → IsPaired t l c → is_store (event t c) ≡ true → reads_at t l x ≡ true →
    IsSource t pos l x s → IsUndisturbed t pos c x s

-- ---- preserved program order

-- The manual's rules 1 to 8, in their order. The last one stands for the rules 9 to 13, on dependencies: what they order is D.
pub data Rule (D : ℕ → ℕ → Type 0) (t : List Event) (pos : ℕ → ℕ) (a b : ℕ) : Type 0 where
  overlapping-store : (x : ℕ) → is_store (event t b) ≡ true → covers (event t a).access x ≡ true → covers (event t b).access x ≡ true → Rule D t pos a b
  different-writes : (x : ℕ) (s u : Option ℕ) → reads_at t a x ≡ true → reads_at t b x ≡ true →
      ((k : ℕ) → a < k → k < b → (event t k).hart ≡ (event t b).hart → writes_at t k x ≡ true → ⊥) →
      IsSource t pos a x s → IsSource t pos b x u → s ≢ u → Rule D t pos a b
  returns-atomic : (x : ℕ) → (is_amo (event t a).access || is_sc (event t a).access) ≡ true → reads_at t b x ≡ true →
      IsSource t pos b x (Some a) → Rule D t pos a b
  fenced : (f : ℕ) → ProgramBefore t a f → ProgramBefore t f b → fence_orders (event t f).access (event t a).access (event t b).access ≡ true → Rule D t pos a b
  acquired : is_acquire (event t a).access ≡ true → Rule D t pos a b
  released : is_release (event t b).access ≡ true → Rule D t pos a b
  both-annotated : (is_acquire (event t a).access || is_release (event t a).access) ≡ true →
      (is_acquire (event t b).access || is_release (event t b).access) ≡ true → Rule D t pos a b
  paired : IsPaired t a b → Rule D t pos a b
  dependent : D a b → Rule D t pos a b

abbrev pub PreservedOrderBy : (ℕ → ℕ → Type 0) → List Event → (ℕ → ℕ) → Type 0
PreservedOrderBy D t pos =
    (a b : ℕ) → is_operation (event t a) ≡ true → is_operation (event t b) ≡ true → ProgramBefore t a b →
    Rule D t pos a b → pos a < pos b

-- a wider rule than the rules 9 to 13, for traces that say nothing of registers: the first access of each of them is a load, an LR, an SC or an AMO
abbrev pub NotPlainStore : List Event → ℕ → ℕ → Type 0
NotPlainStore t a b = is_plain_store (event t a).access ≡ false

abbrev pub PreservedOrder : List Event → (ℕ → ℕ) → Type 0
PreservedOrder t pos = PreservedOrderBy (NotPlainStore t) t pos

-- the order of the trace's memory operations meets RVWMO over these opening bytes, where by the rules 9 to 13 the dependencies D are kept
pub record MeetsRvwmoBy (D : (ℕ → ℕ) → ℕ → ℕ → Type 0) (t : List Event) (opening : ℕ → ℕ) (g : List ℕ) : Type 0 where
  pub lists : ListsOperations t g
  pub load_value : LoadValueAxiom t opening (order_position g)
  pub atomicity : AtomicityAxiom t (order_position g)
  pub preserved : PreservedOrderBy (D (order_position g)) t (order_position g)

-- the same with the wider rule
abbrev pub MeetsRvwmo : List Event → (ℕ → ℕ) → List ℕ → Type 0
MeetsRvwmo t opening g = MeetsRvwmoBy (λ pos. NotPlainStore t) t opening g
