-- The order of a trace by rounds: in each round the parallel loads, then the parallel stores, then the serial operations.
use Rattle.std.specs.Prelude.{◌≡◌, ℕ, ◌+◌, ◌*◌, ◌<◌, ◌⊎◌, if◌then◌else◌, List}
use Rattle.std.specs.List.{AllPairs}
use Rattle.round_schedule.specs.declared.access.Access.{Access}
use Rattle.round_schedule.specs.declared.event.Event.{Event}
use Rattle.round_schedule.specs.declared.event.Phase.{Phase}
use Rattle.round_schedule.specs.declared.event.Phase.TheVariants.{Parallel, Serial}
use Rattle.round_schedule.specs.Positions.{event}
use Rattle.memory_order.specs.Operations.{is_plain_store}
use Rattle.memory_order.specs.Orders.{ListsOperations}

-- the stage of its round that an operation stands in
abbrev pub stage : Phase → Access → ℕ
stage Parallel a = if is_plain_store a then 1 else 0
stage Serial a = 2

-- stages of rounds, numbered through the run
abbrev pub rank : Event → ℕ
rank e = 3 * e.round + stage e.phase e.access

-- of two indexes of the trace, the one of the lower rank; in one rank the earlier one
abbrev pub RanksBefore : List Event → ℕ → ℕ → Type 0
RanksBefore t a b = (rank (event t a) < rank (event t b)) ⊎ ((rank (event t a) ≡ rank (event t b)) × (a < b))

-- all memory operations, each once, by rank and in one rank by index
pub record IsRoundOrder (t : List Event) (g : List ℕ) : Type 0 where
  pub lists : ListsOperations t g
  pub ranked : AllPairs (RanksBefore t) g
