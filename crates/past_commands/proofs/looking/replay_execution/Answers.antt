use Rattle.std.proofs.Common.{◌≡◌, ◌∙◌, Option, false, inr, is_some, subst, sym}
use Rattle.std.proofs.lemmas.Result.{IfOk-weaker}
use Rattle.execution_file.specs.Views.{as_recorded}
use Rattle.execution_scripts.specs.Findings.{IsFound, guest_in}
use Rattle.execution_views.specs.declared.sights.HartStep.{HartStep}
use Rattle.program_files.proofs.Told.{on_error}
use Rattle.past_commands.proofs.Asking.{clash, no_workers, none_of}
use Rattle.past_commands.proofs.looking.replay_execution.Goals as goal

pub returns-clause-answers : goal.returns-clause-answers
returns-clause-answers c =
    let asked = c.args.asked.now in
    let file = as_recorded c.in_ok-file.file in
    let checked = c.in_ok-checked.checked in
    let none : is_some asked.round ≡ false = cc (c.is_some.ensures, c.in_ok-refuse_rounds.ensures.ok) in
    IfOk-weaker c.answer_checked.result _ _ (λ a h. record {
      file = file;
      says = c.in_ok-file.ensures.reads;
      no_rounds = none_of asked.round none;
      workers = c.in_ok-refuse_workers.ensures.ok;
      checked = checked;
      found = subst (λ (s : Option HartStep). IsFound (guest_in file) file s checked.finding checked) c.step_asked.ensures c.in_ok-checked.ensures;
      answer = h;
    }) c.answer_checked.ensures.answers

pub returns-clause-errors : goal.returns-clause-errors
returns-clause-errors c =
    let asked = c.args.asked.now in
    let none : is_some asked.round ≡ false = cc (c.is_some.ensures, c.in_ok-refuse_rounds.ensures.ok) in
    on_error c.answer_checked.result _ _ (λ f h. inr (
      as_recorded c.in_ok-file.file,
      c.in_ok-file.ensures.reads,
      record {
        of_rounds = λ is_true. absurd (clash (is_some asked.round) none is_true);
        of_workers = λ is_false bad. absurd (no_workers asked.workers c.in_ok-refuse_workers.ensures.ok bad);
        of_rest = λ is_false good. inr h;
      },
    )) c.answer_checked.ensures.errors
