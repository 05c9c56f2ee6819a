-- The executions that a table speaks of are those that the checker of executions allows.
use Rattle.std.specs.Prelude.{◌≡◌, ℕ, List}
use Rattle.pages.specs.Memory.{Memory}
use Rattle.hart_step.specs.declared.hart.Hart.{Hart}
use Rattle.hart_step.specs.Console.{ConsoleState}
use Rattle.execution.specs.declared.step.ScriptedStep.{ScriptedStep}
use Rattle.execution.specs.Executions.{Executes, Standing}
use Rattle.execution.specs.Progressing.{at_start}
use Rattle.execution_checker.specs.declared.verdict.Verdict.TheVariants.{Allowed}
use Rattle.execution_checker.specs.Allowed.{Allows, IsVerdict}
use Rattle.all_endings.specs.Endings.{opening_bytes}

-- what is judged to be allowed, over opening bytes that are the image's, is an execution that RVWMO allows over the image
abbrev pub JudgedExecutionsCount : Type 0
JudgedExecutionsCount =
    (image : Memory) (hs : List Hart) (c : ConsoleState) (opening : ℕ → ℕ) (ss : List ScriptedStep) (g : List ℕ) (q : Standing) →
    ((x : ℕ) → opening x ≡ opening_bytes image x) → IsVerdict Allowed image opening ss g (at_start hs c) q →
    Executes image (at_start hs c) q × Allows (opening_bytes image) q g
