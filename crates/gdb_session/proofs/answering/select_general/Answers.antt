use Rattle.std.proofs.Common.{ℕ, Option, sym, subst, refl}
use Rattle.std.specs.Prelude.{IfOk}
use Rattle.std.proofs.lemmas.Result.{IfOk-weaker}
use Rattle.gdb_runs.specs.Sessions.{recorded_of, state_of}
use Rattle.gdb_session.specs.Answers.{SelectsGeneral}
use Rattle.gdb_session.proofs.answering.select_general.Goals as goal

pub returns-in_default-clause-answers : goal.returns-in_default-clause-answers
returns-in_default-clause-answers c = λ m is.
    let s = state_of c.args.session.now in
    let P : Option ℕ → Type 0 = λ x. IfOk c.reply_text.result (λ text. SelectsGeneral (recorded_of m c.args.run.now) s x text.items s) in
    subst P (sym c.in_default.is) (IfOk-weaker c.reply_text.result _ _ (λ text e. (e, refl)) c.reply_text.ensures)
