use Rattle.std.proofs.Common.{subst, sym}
use Rattle.std.specs.Prelude.{IfOk}
use Rattle.std.proofs.lemmas.Result.{IfOk-weaker}
use Rattle.gdb_packets.specs.declared.request.Request.{Request}
use Rattle.gdb_runs.specs.Sessions.{recorded_of, state_of}
use Rattle.gdb_session.specs.Answers.{Answers}
use Rattle.gdb_session.proofs.Arriving.{step_answered}
use Rattle.gdb_session.proofs.answering.answer.Goals as goal

pub returns-in-Step-clause-answers : goal.returns-in-Step-clause-answers
returns-in-Step-clause-answers g c = λ m is.
    IfOk-weaker c.resume.result _ _
    (λ text. step_answered (recorded_of m c.args.run.now) (state_of c.args.session.now) text.items (state_of c.resume.new.session) c.args.request c.in-Step.is)
    (c.resume.ensures.resumes m is)

pub returns-in-Command-clause-answers : goal.returns-in-Command-clause-answers
returns-in-Command-clause-answers g c = λ m is.
    let A : Request → Type 0 = λ q. IfOk c.answer_command.result
    (λ text. Answers (recorded_of m c.args.run.now) (state_of c.args.session.now) q text.items (state_of c.answer_command.new.session)) in
    subst A (sym c.in-Command.is) (c.answer_command.ensures.answers m is)
