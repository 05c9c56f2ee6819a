use Rattle.std.proofs.Common.{◌∙◌, ap, inl, inr, subst, ⊎_elim}
use Rattle.execution_scripts.specs.declared.checking.Checked.{Checked}
use Rattle.program_files.proofs.Begun.{on_err}
use Rattle.execution_commands.specs.Verdicts.{IsVerdictText, verdict_status}
use Rattle.execution_commands.proofs.checking.check_command.Goals as goal

pub returns-in_err-printed-clause-begun : goal.returns-in_err-printed-clause-begun
returns-in_err-printed-clause-begun g c =
    let a = c.in_ok-checked.ensures.checks in
    on_err c.from_residual-in_err-printed.result _ (⊎_elim (λ same. inl same) (λ b. inr (
      a.0,
      b.0,
      subst (λ (k : Checked). IsVerdictText k b.0) a.1 b.1,
      b.2,
    )) c.in_err-printed.ensures.begun)

pub returns-clause-checks : goal.returns-clause-checks
returns-clause-checks g c =
    let a = c.in_ok-checked.ensures.checks in
    let put = c.in_ok-printed.ensures.puts in (
      a.0,
      put.0,
      subst (λ (k : Checked). IsVerdictText k put.0) a.1 put.1,
      put.2,
      put.3,
      put.4 ∙ ap (λ (k : Checked). verdict_status k.finding) a.1,
    )
