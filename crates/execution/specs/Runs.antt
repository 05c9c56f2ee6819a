-- Runs in rounds, as executions.
use Rattle.std.specs.Prelude.{◌≡◌, ℕ, List}
use Rattle.pages.specs.declared.access.Range.{Range}
use Rattle.pages.specs.Memory.{IsBytes, Memory}
use Rattle.round_schedule.specs.Schedule.{State, opening_state, run_of}
use Rattle.hart_step.specs.declared.hart.Hart.{Hart}
use Rattle.hart_step.specs.Console.{ConsoleState}
use Rattle.hart_step.specs.Words.{words_of}
use Rattle.execution.specs.Executions.{Executes, Standing}
use Rattle.execution.specs.Progressing.{at_start}
use Rattle.execution.specs.Telling.{Tells, telling}

-- so many rounds of these harts over this memory and this console
pub record Course : Type 0 where
  pub budget : ℕ
  pub quotas : ℕ → List ℕ
  pub rounds : ℕ
  pub harts : List Hart
  pub memory : Memory
  pub console : ConsoleState

-- the run, and the same run with an event for each instruction
abbrev pub ran : Course → State Hart ConsoleState
ran x = run_of (words_of x.memory.code) x.budget x.quotas x.rounds (opening_state x.harts x.memory.bytes x.console)

abbrev pub told_run : Course → State Hart ConsoleState
told_run x = run_of (telling (words_of x.memory.code)) x.budget x.quotas x.rounds (opening_state x.harts x.memory.bytes x.console)

-- an execution in which the harts do just what they do in a run: it ends where the run does, and its events are those of the
-- run's trace and one for each instruction without an access
pub record IsOfRun (x : Course) (q : Standing) : Type 0 where
  pub executes : Executes x.memory (at_start x.harts x.console) q
  pub harts : q.harts ≡ (ran x).harts
  pub console : q.console ≡ (ran x).console
  pub events : q.events ≡ (told_run x).trace
  pub tells : Tells (told_run x).trace (ran x).trace

-- every run is an execution
abbrev pub RunsAreExecutions : Type 0
RunsAreExecutions = (x : Course) → IsBytes x.memory.bytes → (q : Standing) × IsOfRun x q
