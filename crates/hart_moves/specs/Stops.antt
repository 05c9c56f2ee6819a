-- What an instruction leaves, and the stop of a memory operation.
use Rattle.std.specs.Prelude.{◌≡◌, if◌then◌else◌, Option}
use Rattle.pages.specs.Memory.{Memory, loaded, store_fault}
use Rattle.round_schedule.specs.declared.access.Stepped.{Stepped}
use Rattle.round_schedule.specs.Schedule.{StepOutcome}
use Rattle.hart_step.specs.declared.hart.Hart.{Hart}
use Rattle.hart_step.specs.declared.hart.Stop.{Stop}
use Rattle.run_bounds.specs.declared.operation.Operation.{Operation}
use Rattle.all_endings.specs.Stopping.{stop_of_load, stop_of_store}
use Rattle.hart_moves.specs.Choosing.{reads_only}

-- the answer and the hart are those of an outcome
pub record IsLeftBy (o : StepOutcome Hart) (told : Stepped) (left : Hart) : Type 0 where
  pub answer : told ≡ o.answer
  pub hart : left ≡ o.hart

-- an SC and an AMO are tested as stores
abbrev pub stop_of_operation : Memory → Operation → Option Stop
stop_of_operation image o =
    if reads_only o.kind then stop_of_load (loaded image o.address o.width) else stop_of_store (store_fault image o.address o.width)
