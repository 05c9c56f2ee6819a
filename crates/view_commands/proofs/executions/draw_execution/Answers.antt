use Rattle.std.proofs.Common.{inl, inr, ⊎_elim}
use Rattle.execution_commands.specs.Checks.{CheckedText}
use Rattle.execution_file.specs.Views.{as_recorded}
use Rattle.program_files.proofs.Told.{on_error, where_refused}
use Rattle.view_commands.proofs.Drawn.{draws_so, end_so}
use Rattle.view_commands.proofs.executions.draw_execution.Goals as goal

pub returns-clause-draws : goal.returns-clause-draws
returns-clause-draws g c =
    let made : CheckedText c.args.text.now = record {
      execution = as_recorded c.in_ok-file.file;
      checked = c.in_ok-checked.checked;
      says = c.in_ok-file.ensures.reads;
      found = c.in_ok-checked.ensures;
    } in
    draws_so c.args.asked.now c.args.text.now _ _ made c.draw_checked.result c.in_ok-refuse_options.ensures.askable c.draw_checked.ensures.prints c.draw_checked.ensures.status

pub returns-clause-begun : goal.returns-clause-begun
returns-clause-begun g c =
    let made : CheckedText c.args.text.now = record {
      execution = as_recorded c.in_ok-file.file;
      checked = c.in_ok-checked.checked;
      says = c.in_ok-file.ensures.reads;
      found = c.in_ok-checked.ensures;
    } in
    where_refused c.draw_checked.result _ _ (λ h. ⊎_elim (λ same. inl same)
    (λ b. inr (record { made = made; askable = c.in_ok-refuse_options.ensures.askable; began = b })) h) c.draw_checked.ensures.begun

pub returns-clause-errors : goal.returns-clause-errors
returns-clause-errors g c =
    let made : CheckedText c.args.text.now = record {
      execution = as_recorded c.in_ok-file.file;
      checked = c.in_ok-checked.checked;
      says = c.in_ok-file.ensures.reads;
      found = c.in_ok-checked.ensures;
    } in
    on_error c.draw_checked.result _ _ (λ e h. end_so c.args.asked.now c.args.text.now made _ e c.in_ok-refuse_options.ensures.askable h) c.draw_checked.ensures.errors
