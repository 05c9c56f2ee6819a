use Rattle.std.proofs.Common.{subst, sym}
use Rattle.std.proofs.lemmas.Result.{IfOk-weaker}
use Rattle.execution_moments.specs.Looked.{looked_at}
use Rattle.execution_session.specs.Answers.{Answer, IsAnswer}
use Rattle.execution_session.specs.Sessions.{state_of}
use Rattle.execution_session.proofs.Arriving.{only_changes}
use Rattle.execution_session.proofs.answering.answer.Goals as goal

pub returns-in_default-clause-answers : goal.returns-in_default-clause-answers
returns-in_default-clause-answers c =
    let t = state_of c.change_or_reply.new.session in
    let only = only_changes (looked_at c.args.past.now) (state_of c.args.session.now) c.args.request c.in_default.not-SelectGeneral c.in_default.not-SelectMoving c.in_default.not-Continue c.in_default.not-Step c.in_default.not-StepIn c.in_default.not-StepAlone c.in_default.not-StepBack c.in_default.not-ContinueBack in
    IfOk-weaker c.change_or_reply.result _ _ (λ text answer. subst (λ (a : Answer). IsAnswer a text.items t) (sym only) answer) c.change_or_reply.ensures.changes
