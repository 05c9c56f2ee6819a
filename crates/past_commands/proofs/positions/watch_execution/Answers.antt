use Rattle.std.proofs.Common.{◌≡◌, ◌||◌, false, inr, is_some, rules}
use Rattle.std.proofs.lemmas.Result.{IfOk-weaker}
use Rattle.execution_file.specs.Views.{as_recorded}
use Rattle.program_files.proofs.Told.{on_error}
use Rattle.past_commands.proofs.Asking.{clash, neither, no_workers}
use Rattle.past_commands.proofs.positions.watch_execution.Goals as goal

pub returns-clause-watches : goal.returns-clause-watches
returns-clause-watches c =
    IfOk-weaker c.watch_checked.result _ _ (λ w h. record {
      file = as_recorded c.in_ok-file.file;
      says = c.in_ok-file.ensures.reads;
      no_from = c.in_ok-refuse_some_rounds.ensures.from;
      no_to = c.in_ok-refuse_some_rounds.ensures.to;
      workers = c.in_ok-refuse_workers.ensures.ok;
      checked = c.in_ok-checked.checked;
      found = c.in_ok-checked.ensures;
      watch = h;
    }) c.watch_checked.ensures.watches

pub returns-clause-errors : goal.returns-clause-errors
returns-clause-errors c =
    let asked = c.args.asked.now in
    let none = neither asked.from asked.to c.in_ok-refuse_some_rounds.ensures.from c.in_ok-refuse_some_rounds.ensures.to in
    on_error c.watch_checked.result _ _ (λ f h. inr (
      as_recorded c.in_ok-file.file,
      c.in_ok-file.ensures.reads,
      record {
        of_rounds = λ is_true. absurd (clash (is_some asked.from || is_some asked.to) none is_true);
        of_workers = λ is_false bad. absurd (no_workers asked.workers c.in_ok-refuse_workers.ensures.ok bad);
        of_rest = λ is_false good. inr h;
      },
    )) c.watch_checked.ensures.errors
