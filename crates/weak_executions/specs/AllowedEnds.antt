-- How a guest may end by RVWMO.
use Rattle.std.specs.Prelude.{◌≡◌, ℕ, List, slice_index}
use Rattle.hart_step.specs.declared.hart.Hart.{Hart}
use Rattle.serial_phase.specs.Opening.{opening_console}
use Rattle.elf_loader.specs.Image.{Loaded, memory_of}
use Rattle.execution.specs.declared.step.ScriptedStep.{ScriptedStep}
use Rattle.execution.specs.Executions.{Standing}
use Rattle.execution.specs.Progressing.{at_start}
use Rattle.execution_checker.specs.Allowed.{Allows, Follows}

-- an execution of the image from these harts on this input, which RVWMO allows in some order of its memory operations, leads to
-- these harts and this output
pub record IsAllowedEnd (image : Loaded) (input : List ℕ) (harts ends : List Hart) (output : List ℕ) : Type 0 where
  pub script : List ScriptedStep
  pub order : List ℕ
  pub end : Standing
  pub follows : Follows (memory_of image) script (at_start harts (opening_console input)) end
  pub allows : Allows (λ x. slice_index image.bytes x) end order
  pub lead_to : ends ≡ end.harts
  pub put_out : output ≡ end.console.output
