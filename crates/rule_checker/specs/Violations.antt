-- Where an order first breaks what has to hold of each memory operation.
use Rattle.std.specs.Prelude.{◌≡◌, ℕ, ◌<◌, min, true, List, Option, Some, None}
use Rattle.round_schedule.specs.declared.event.Event.{Event}
use Rattle.round_schedule.specs.Positions.{ProgramBefore, event}
use Rattle.memory_order.specs.Operations.{is_operation, is_store}
use Rattle.memory_order.specs.Rvwmo.{IsPaired, Rule}

-- P holds of the index of each memory operation
abbrev pub RespectsAll : List Event → (ℕ → Type 0) → Type 0
RespectsAll t P = (b : ℕ) → is_operation (event t b) ≡ true → P b

-- b is the index of the first memory operation that P doesn't hold of
pub record IsFirstViolation (t : List Event) (P : ℕ → Type 0) (b : ℕ) : Type 0 where
  pub operation : is_operation (event t b) ≡ true
  pub respected : (a : ℕ) → a < b → is_operation (event t a) ≡ true → P a
  pub violated : P b → ⊥

-- what preserved program order, with the dependencies D, orders before the operation at b stands before it
abbrev pub PreservedAt : (ℕ → ℕ → Type 0) → List Event → (ℕ → ℕ) → ℕ → Type 0
PreservedAt D t pos b = (a : ℕ) → is_operation (event t a) ≡ true → ProgramBefore t a b → Rule D t pos a b → pos a < pos b

-- an SC that succeeded stands behind the LR that it is paired with
abbrev pub RespectsPairAt : List Event → (ℕ → ℕ) → ℕ → Type 0
RespectsPairAt t pos c = (l : ℕ) → IsPaired t l c → is_store (event t c) ≡ true → pos l < pos c

-- the lower of two indexes, where there is one
abbrev pub earliest : Option ℕ → Option ℕ → Option ℕ
earliest None b = b
earliest (Some a) None = Some a
earliest (Some a) (Some b) = Some (min a b)
