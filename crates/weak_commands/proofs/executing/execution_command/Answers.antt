use Rattle.std.proofs.Common.{◌∙◌, inr, refl}
use Rattle.execution_file.specs.Views.{as_recorded}
use Rattle.program_files.proofs.Begun.{on_err, whole}
use Rattle.weak_commands.proofs.executing.execution_command.Goals as goal

pub returns-in_err-write_execution-clause-begun : goal.returns-in_err-write_execution-clause-begun
returns-in_err-write_execution-clause-begun g c =
    on_err c.from_residual-in_err-write_execution.result _ (inr (
      record { file = as_recorded c.in_ok-file.file; is_asked = c.in_ok-file.ensures.asked },
      c.in_err-write_execution.ensures.writes.begun,
    ))

pub returns-in_err-hand_on-clause-begun : goal.returns-in_err-hand_on-clause-begun
returns-in_err-hand_on-clause-begun g c =
    on_err c.from_residual-in_err-hand_on.result _ (inr (
      record { file = as_recorded c.in_ok-file.file; is_asked = c.in_ok-file.ensures.asked },
      whole _ _ _ (c.in_err-hand_on.ensures.took ∙ c.in_ok-write_execution.ensures.writes.ok),
    ))

pub returns-clause-prints : goal.returns-clause-prints
returns-clause-prints g c = (
  record { file = as_recorded c.in_ok-file.file; is_asked = c.in_ok-file.ensures.asked },
  c.in_ok-hand_on.ensures.took ∙ c.in_ok-write_execution.ensures.writes.ok,
  c.in_ok-hand_on.ensures.out,
  refl,
)
