-- How a hart's run ends.
use Rattle.std.specs.Prelude.{◌≡◌, ℕ, ◌<◌, true, is_some, Option, Some}
use Rattle.pages.specs.Memory.{Memory}
use Rattle.round_schedule.specs.declared.access.Stepped.TheVariants.{Stopped}
use Rattle.round_schedule.specs.declared.span.Span.{Span}
use Rattle.hart_step.specs.declared.hart.Hart.{Hart}
use Rattle.hart_step.specs.declared.hart.Stop.{Stop}
use Rattle.hart_step.specs.Console.{ConsoleState}
use Rattle.execution.specs.Executions.{IsStep}
use Rattle.all_endings.specs.Factorizing.{Lags}
use Rattle.all_endings.specs.Locality.{view}
use Rattle.all_endings.specs.RunStates.{RunState}

-- all registers are known
abbrev pub KnowsRegisters : RunState → Type 0
KnowsRegisters a = (r : ℕ) → r < 32 → is_some (view a.registers r) ≡ true

-- a hart that stands where the run does stops so, as its next instruction
pub record Halts (image : Memory) (a : RunState) (stop : Stop) : Type 0 where
  pub hart : Hart
  pub lags : Lags a hart
  pub round : ℕ
  pub own : Option Span
  pub before : ConsoleState
  pub behind : ConsoleState
  pub after : Hart
  pub code : ℕ
  pub step : IsStep image round own before behind hart after (Stopped code)
  pub stopped : after.stop ≡ Some stop
