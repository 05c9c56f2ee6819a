use Rattle.std.proofs.Common.{inr, inl}
use Rattle.std.proofs.lemmas.Result.{err_from_is_err_and}
use Rattle.program_files.proofs.Told.{on_error, on_value}
use Rattle.debug_commands.proofs.debuggee.opened.Goals as goal

pub returns-in_err-past-clause-errors : goal.returns-in_err-past-clause-errors
returns-in_err-past-clause-errors g c =
    let p = err_from_is_err_and c.from_residual.result c.from_residual.ensures.1 in
    rw (p.1, p.2) (inl c.in_err-past.ensures.errors)

pub returns-clause-opens : goal.returns-clause-opens
returns-clause-opens g c =
    on_value c.opened_past.result _ _ (λ d h. record {
      past = c.in_ok-past.past;
      holds = c.in_ok-past.ensures.holds;
      is = h;
    }) c.opened_past.ensures.opens

pub returns-clause-errors : goal.returns-clause-errors
returns-clause-errors g c =
    on_error c.opened_past.result _ _ (λ f h. inr (c.in_ok-past.past, c.in_ok-past.ensures.holds, h)) c.opened_past.ensures.errors
