use Rattle.std.proofs.Common.{◌∙◌, inr}
use Rattle.program_files.proofs.Begun.{on_err, whole}
use Rattle.execution_commands.proofs.checking.print_verdict.Goals as goal

pub returns-in_err-hand_on-clause-begun : goal.returns-in_err-hand_on-clause-begun
returns-in_err-hand_on-clause-begun g c =
    let put = c.in_ok-status.ensures.puts in
    on_err c.from_residual-in_err-hand_on.result _ (inr (put.0, put.1, whole _ _ _ (c.in_err-hand_on.ensures.took ∙ put.2)))

pub returns-clause-puts : goal.returns-clause-puts
returns-clause-puts g c =
    let put = c.in_ok-status.ensures.puts in
    (put.0, put.1, c.in_ok-hand_on.ensures.took ∙ put.2, c.in_ok-hand_on.ensures.out, put.3)
