use Rattle.std.proofs.Common.{◌∙◌}
use Rattle.program_files.proofs.Begun.{on_err, whole}
use Rattle.past_commands.proofs.watching.hand_on_watched.Goals as goal

pub returns-in_err-status-clause-begun : goal.returns-in_err-status-clause-begun
returns-in_err-status-clause-begun g c = on_err c.from_residual.result _ c.in_err-status.ensures.prints.begun

pub returns-in_err-hand_on-clause-begun : goal.returns-in_err-hand_on-clause-begun
returns-in_err-hand_on-clause-begun g c = on_err c.from_residual-in_err-hand_on.result _ (whole _ _ _ (c.in_err-hand_on.ensures.took ∙ c.in_ok-status.ensures.prints.done))

pub returns-clause-printed : goal.returns-clause-printed
returns-clause-printed g c = (c.in_ok-hand_on.ensures.took ∙ c.in_ok-status.ensures.prints.done, c.in_ok-hand_on.ensures.out, c.in_ok-status.ensures.status)
