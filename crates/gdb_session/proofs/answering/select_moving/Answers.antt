use Rattle.std.proofs.Common.{ℕ, Option, None, sym, subst, refl}
use Rattle.gdb_runs.specs.Sessions.{recorded_of, state_of}
use Rattle.gdb_session.specs.Answers.{SelectsMovingBy, moves_alone}
use Rattle.gdb_session.proofs.answering.select_moving.Goals as goal

pub returns-in_default-clause-answers : goal.returns-in_default-clause-answers
returns-in_default-clause-answers c = λ m is.
    let s = state_of c.args.session.now in
    let P : Option ℕ → Type 0 = λ x. SelectsMovingBy (recorded_of m c.args.run.now) s x c.in_ok-text.text.items (moves_alone s None) in
    subst P (sym c.in_default.is) (c.in_ok-text.ensures, refl)
