-- What the turns of a file's order name, turn by turn.
use Rattle.std.specs.Prelude.{◌≡◌, ℕ, ◌+◌, ◌<◌, ◌==◌, ◌&&◌, true, if◌then◌else◌, List, [], ◌∷◌, ◌++◌, Contains, length, slice_index_or, take, Option, Some, None}
use Rattle.round_schedule.specs.declared.event.Event.{Event}
use Rattle.round_schedule.specs.Positions.{event}
use Rattle.memory_order.specs.Operations.{is_operation}
use Rattle.execution_file.specs.Recorded.{Turn}
use Rattle.execution_file.specs.declared.naming.Named.{Named}
use Rattle.execution_file.specs.declared.naming.Named.TheVariants.{Order, NoOperation}

-- how many memory operations of hart h there are
abbrev pub operations_of : ℕ → List Event → ℕ
operations_of h [] = 0
operations_of h (e ∷ t) = (if e.hart == h && is_operation e then 1 else 0) + operations_of h t

-- the operation at index a is the hart's first, in program order, that isn't among those named before
pub record IsFirstLeft (t : List Event) (named : List ℕ) (a : ℕ) : Type 0 where
  pub left : Contains named a → ⊥
  pub first : (b : ℕ) → b < a → (event t b).hart ≡ (event t a).hart → is_operation (event t b) ≡ true → Contains named b

-- the operation at index a has this number among those of its hart, in program order and from 0 on. Where there is none, it is the
-- hart's first that isn't named yet
abbrev pub HasNumber : Option ℕ → List Event → List ℕ → ℕ → Type 0
HasNumber (Some n) t named a = n ≡ operations_of (event t a).hart (take a t)
HasNumber None t named a = IsFirstLeft t named a

-- the turn names the operation at index a, where those before it named these
pub record Names (u : Turn) (t : List Event) (named : List ℕ) (a : ℕ) : Type 0 where
  pub operation : is_operation (event t a) ≡ true
  pub hart : u.hart ≡ (event t a).hart
  pub number : HasNumber u.number t named a

-- the turns name this order, one after another
pub data AreNames : List Turn → List Event → List ℕ → Type 0 where
  names-none : (t : List Event) → AreNames [] t []
  names-more : (us : List Turn) (u : Turn) (t : List Event) (g : List ℕ) (a : ℕ) →
      AreNames us t g → Names u t g a → AreNames (us ++ u ∷ []) t (g ++ a ∷ [])

-- the turn at an index is the first that names no operation
pub record NamesNone (us : List Turn) (t : List Event) (index : ℕ) : Type 0 where
  pub within : index < length us
  pub named : List ℕ
  pub before : AreNames (take index us) t named
  pub none : (u : Turn) → u ≡ slice_index_or us index u → (a : ℕ) → Names u t named a → ⊥

-- the order that turns name, or the first turn that names no operation
abbrev pub IsNamed : List Turn → List Event → Named → Type 0
IsNamed us t (Order g) = AreNames us t g.items
IsNamed us t (NoOperation index) = NamesNone us t index
