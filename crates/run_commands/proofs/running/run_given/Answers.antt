use Rattle.std.proofs.Common.{◌∙◌, ap, inr}
use Rattle.emulation.specs.declared.run_end.RunEnd.{RunEnd}
use Rattle.program_files.proofs.Begun.{on_err, whole}
use Rattle.run_commands.specs.Printed.{run_status}
use Rattle.run_commands.proofs.running.run_given.Goals as goal

pub returns-in_err-hand_on-clause-begun : goal.returns-in_err-hand_on-clause-begun
returns-in_err-hand_on-clause-begun g c =
    let done = c.in_ok-end.ensures.runs in
    on_err c.from_residual-in_err-hand_on.result _ (inr (done.0, whole _ _ _ (c.in_err-hand_on.ensures.took ∙ done.1)))

pub returns-clause-runs : goal.returns-clause-runs
returns-clause-runs g c =
    let done = c.in_ok-end.ensures.runs in (
      done.0,
      c.in_ok-hand_on.ensures.took ∙ done.1,
      c.in_ok-hand_on.ensures.out,
      c.run_status.ensures ∙ ap (λ (end : RunEnd). run_status c.args.asked.now.strict end) done.2,
    )
