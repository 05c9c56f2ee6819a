-- The orders by rounds of runs, as orders of executions.
use Rattle.std.specs.Prelude.{ℕ, List, slice_index}
use Rattle.pages.specs.Memory.{IsBytes}
use Rattle.memory_order.specs.RoundOrder.{IsRoundOrder}
use Rattle.execution.specs.Executions.{Standing}
use Rattle.execution.specs.Runs.{Course, IsOfRun, told_run}
use Rattle.execution_checker.specs.Allowed.{Allows}

-- every run is an execution that RVWMO allows, with all its rules: in the order by rounds of the run's trace, which has an event
-- for each instruction, over the bytes of the run's start
abbrev pub OrdersOfRunsAreAllowed : Type 0
OrdersOfRunsAreAllowed =
    (x : Course) → IsBytes x.memory.bytes →
    (q : Standing) × IsOfRun x q × ((g : List ℕ) → IsRoundOrder (told_run x).trace g → Allows (λ a. slice_index x.memory.bytes a) q g)
