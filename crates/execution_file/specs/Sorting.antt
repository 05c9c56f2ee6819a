-- The memory operations of each hart, and which of them turns have named.
use Rattle.std.specs.Prelude.{◌≡◌, ◌↔◌, ℕ, ◌<◌, Bool, true, false, List, [], ◌∷◌, ◌++◌, Contains, length, slice_index_or, slice_index, slice_set, take}
use Rattle.round_schedule.specs.declared.event.Event.{Event}
use Rattle.round_schedule.specs.Positions.{event}
use Rattle.memory_order.specs.Operations.{is_operation}
use Rattle.execution_file.specs.declared.operations.Operations.{Operations}
use Rattle.execution_file.specs.Turns.{operations_of}

-- index a is that of the operation of hart h with this number, in program order
pub record IsOperation (t : List Event) (h n a : ℕ) : Type 0 where
  pub operation : is_operation (event t a) ≡ true
  pub hart : (event t a).hart ≡ h
  pub number : operations_of h (take a t) ≡ n

-- no operations
pub record IsEmpty (o : Operations) : Type 0 where
  pub indexes : o.indexes.items ≡ []
  pub named : o.named.items ≡ []
  pub next : o.next ≡ 0

-- the operations of hart h among the first n events, none of them named
pub record AreFirst (t : List Event) (n h : ℕ) (o : Operations) : Type 0 where
  pub count : length o.indexes.items ≡ operations_of h (take n t)
  pub each : (k : ℕ) → k < length o.indexes.items → IsOperation t h k (slice_index o.indexes.items k)
  pub along : length o.named.items ≡ length o.indexes.items
  pub unnamed : (k : ℕ) → slice_index_or o.named.items k false ≡ false
  pub next : o.next ≡ 0

-- the operations of hart h, of which these are named
pub record AreOf (t : List Event) (named : List ℕ) (h : ℕ) (o : Operations) : Type 0 where
  pub count : length o.indexes.items ≡ operations_of h t
  pub each : (k : ℕ) → k < length o.indexes.items → IsOperation t h k (slice_index o.indexes.items k)
  pub along : length o.named.items ≡ length o.indexes.items
  pub is_named : (k : ℕ) → k < length o.indexes.items → slice_index_or o.named.items k false ≡ true ↔ Contains named (slice_index o.indexes.items k)
  pub passed : (k : ℕ) → k < o.next → k < length o.indexes.items → slice_index_or o.named.items k false ≡ true

-- the operations of all harts, sorted by their harts
pub record AreSorted (t : List Event) (named : List ℕ) (all : List Operations) : Type 0 where
  pub harts : length all ≡ 256
  pub each : (h : ℕ) → h < 256 → (d : Operations) → AreOf t named h (slice_index_or all h d)

-- one more operation, which isn't named
pub record IsAdded (index : ℕ) (old new : Operations) : Type 0 where
  pub indexes : new.indexes.items ≡ old.indexes.items ++ index ∷ []
  pub named : new.named.items ≡ old.named.items ++ false ∷ []
  pub next : new.next ≡ old.next
