use Rattle.std.proofs.Common.{ap, inl, inr}
use Rattle.std.proofs.lemmas.Result.{IfErr-weaker, IfOk-weaker, err_from_is_err_and, on_err_weaker}
use Rattle.program_files.specs.Failures.{failure_number}
use Rattle.past_commands.proofs.replaying.replay_command.Goals as goal

pub returns-in_err-past-clause-errors : goal.returns-in_err-past-clause-errors
returns-in_err-past-clause-errors g c =
    let p = err_from_is_err_and c.from_residual.result c.from_residual.ensures.1 in
    rw (p.1, p.2) (inl c.in_err-past.ensures.errors)

pub returns-clause-answers : goal.returns-clause-answers
returns-clause-answers g c =
    IfOk-weaker c.print_answer-status.result _ _
    (λ status h. (record { past = c.in_ok-past.past; holds = c.in_ok-past.ensures.holds; answer = c.in_ok-answer.answer; is_answer = c.in_ok-answer.ensures.answers }, h.0, h.1, h.2))
    c.print_answer-status.ensures.printed

pub returns-clause-begun : goal.returns-clause-begun
returns-clause-begun g c =
    on_err_weaker c.print_answer-status.result
    (λ begun. inr (record { past = c.in_ok-past.past; holds = c.in_ok-past.ensures.holds; answer = c.in_ok-answer.answer; is_answer = c.in_ok-answer.ensures.answers }, begun))
    c.print_answer-status.ensures.begun

pub returns-clause-errors : goal.returns-clause-errors
returns-clause-errors g c = IfErr-weaker c.print_answer-status.result _ _ (λ f output. inr (inl output)) c.print_answer-status.ensures.errors

pub returns-clause-unprinted : goal.returns-clause-unprinted
returns-clause-unprinted g c = IfErr-weaker c.print_answer-status.result _ _ (λ f output. inr (inr (ap failure_number output.0))) c.print_answer-status.ensures.errors
