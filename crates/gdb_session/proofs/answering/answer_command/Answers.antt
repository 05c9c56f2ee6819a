use Rattle.std.proofs.Common.{sym, subst}
use Rattle.std.specs.Prelude.{IfOk}
use Rattle.std.proofs.lemmas.Result.{IfOk-weaker}
use Rattle.gdb_packets.specs.declared.command.Command.{Command}
use Rattle.gdb_packets.specs.declared.request.Request.TheVariants as requests
use Rattle.gdb_runs.specs.Sessions.{recorded_of, state_of}
use Rattle.gdb_session.specs.Answers.{Answers}
use Rattle.gdb_session.proofs.Arriving.{replied}
use Rattle.gdb_session.proofs.answering.answer_command.Goals as goal

pub returns-in-HitsOn-clause-answers : goal.returns-in-HitsOn-clause-answers
returns-in-HitsOn-clause-answers g c = λ m is.
    let P : Command → Type 0 = λ k. IfOk c.set_hits.result
    (λ text. Answers (recorded_of m c.args.run.now) (state_of c.args.session.now) (requests.Command k) text.items (state_of c.set_hits.new.session)) in
    subst P (sym c.in-HitsOn.is) c.set_hits.ensures.says

pub returns-in-HitsOff-clause-answers : goal.returns-in-HitsOff-clause-answers
returns-in-HitsOff-clause-answers g c = λ m is.
    let P : Command → Type 0 = λ k. IfOk c.set_hits-in-HitsOff.result
    (λ text. Answers (recorded_of m c.args.run.now) (state_of c.args.session.now) (requests.Command k) text.items (state_of c.set_hits-in-HitsOff.new.session)) in
    subst P (sym c.in-HitsOff.is) c.set_hits-in-HitsOff.ensures.says

pub returns-else-is_goto-clause-answers : goal.returns-else-is_goto-clause-answers
returns-else-is_goto-clause-answers g c = λ m is.
    IfOk-weaker c.reply_to.result _ _
    (λ text. replied (recorded_of m c.args.run.now) (state_of c.args.session.now) (requests.Command c.args.command) text.items)
    (c.reply_to.ensures.replies m is)
