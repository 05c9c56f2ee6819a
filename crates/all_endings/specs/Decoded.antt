-- The registers of decoded instructions are registers: their numbers are below 32.
use Rattle.std.specs.Prelude.{ℕ, List}
use Rattle.pages.specs.Memory.{Memory}
use Rattle.hart_step.specs.declared.hart.Hart.{Hart}
use Rattle.hart_step.specs.Console.{ConsoleState}
use Rattle.memory_order.specs.Dependencies.{registers_at}
use Rattle.rule_checker.specs.CarriedBounds.{AreRegisters}
use Rattle.execution.specs.Executions.{Executes, Standing}
use Rattle.execution.specs.Progressing.{at_start}

-- so are those of every instruction of an execution
abbrev pub RegistersAreRegisters : Type 0
RegistersAreRegisters =
    (image : Memory) (hs : List Hart) (c : ConsoleState) (q : Standing) → Executes image (at_start hs c) q → (i : ℕ) → AreRegisters (registers_at q.instructions i)
