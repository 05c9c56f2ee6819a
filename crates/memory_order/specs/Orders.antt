-- Orders of a trace's memory operations, as lists of their indexes in the trace.
use Rattle.std.specs.Prelude.{◌≡◌, ◌≢◌, ℕ, suc, ◌==◌, true, cond, List, [], ◌∷◌, All, Contains}
use Rattle.std.specs.List.{AllPairs}
use Rattle.round_schedule.specs.declared.event.Event.{Event}
use Rattle.round_schedule.specs.Positions.{event}
use Rattle.memory_order.specs.Operations.{is_operation}

-- where an index of the trace stands in an order; the order's length where it does not
abbrev pub order_position : List ℕ → ℕ → ℕ
order_position [] a = 0
order_position (b ∷ g) a = cond (b == a) 0 (suc (order_position g a))

-- the order lists the indexes of all memory operations, each once
pub record ListsOperations (t : List Event) (g : List ℕ) : Type 0 where
  pub only : All (λ i. is_operation (event t i) ≡ true) g
  pub each : (i : ℕ) → is_operation (event t i) ≡ true → Contains g i
  pub once : AllPairs (λ a b. a ≢ b) g
