use Rattle.std.proofs.Common.{ap, inl, inr, ⊎_elim}
use Rattle.std.proofs.lemmas.Result.{IfErr-weaker, IfOk-weaker, err_from_is_err_and, on_err_weaker}
use Rattle.program_files.specs.Failures.{failure_number}
use Rattle.past_commands.proofs.watching.watch_command.Goals as goal

pub returns-in_err-past-clause-errors : goal.returns-in_err-past-clause-errors
returns-in_err-past-clause-errors g c =
    let p = err_from_is_err_and c.from_residual.result c.from_residual.ensures.1 in
    rw (p.1, p.2) (inl c.in_err-past.ensures.errors)

pub returns-clause-watches : goal.returns-clause-watches
returns-clause-watches g c =
    IfOk-weaker c.hand_on_watched-status.result _ _
    (λ status h. (record { past = c.in_ok-past.past; holds = c.in_ok-past.ensures.holds; watched = c.in_ok-watched.watched; is_watch = c.in_ok-watched.ensures.watches }, h.0, h.1, h.2))
    c.hand_on_watched-status.ensures.printed

pub returns-clause-begun : goal.returns-clause-begun
returns-clause-begun g c =
    on_err_weaker c.hand_on_watched-status.result
    (λ begun. inr (record { past = c.in_ok-past.past; holds = c.in_ok-past.ensures.holds; watched = c.in_ok-watched.watched; is_watch = c.in_ok-watched.ensures.watches }, begun))
    c.hand_on_watched-status.ensures.begun

pub returns-clause-errors : goal.returns-clause-errors
returns-clause-errors g c =
    IfErr-weaker c.hand_on_watched-status.result _ _ (λ f. ⊎_elim (λ output. inr (inl output)) (λ memory. inr (inr (inl memory)))) c.hand_on_watched-status.ensures.errors

pub returns-clause-unprinted : goal.returns-clause-unprinted
returns-clause-unprinted g c =
    IfErr-weaker c.hand_on_watched-status.result _ _ (λ f. ⊎_elim (λ output. inr (inr (ap failure_number output.0))) (λ memory. inr (inl (ap failure_number memory))))
    c.hand_on_watched-status.ensures.errors
