use Rattle.std.proofs.Common.{MatchOption, None, Option, Some, ◌≡◌, ap, subst, sym}
use Rattle.std.proofs.lemmas.Result.{IfOk-weaker}
use Rattle.gdb_talk.specs.Stops.{Stopping}
use Rattle.gdb_runs.specs.Sessions.{State, recorded_of, state_of}
use Rattle.gdb_session.specs.Answers.{Answers}
use Rattle.gdb_session.proofs.Arriving.{changed, replied}
use Rattle.gdb_session.proofs.answering.change_or_reply.Goals as goal

at_none : {X : Type 0} (o : Option X) (A : Type 0) (B : X → Type 0) → o ≡ None → MatchOption o A B → A
at_none o A B e h = subst (λ x. MatchOption x A B) e h

at_some : {X : Type 0} (o : Option X) (A : Type 0) (B : X → Type 0) (y : X) → o ≡ Some y → MatchOption o A B → B y
at_some o A B y e h = subst (λ x. MatchOption x A B) e h

pub returns-in-Some-clause-answers : goal.returns-in-Some-clause-answers
returns-in-Some-clause-answers g c = λ m is.
    let done = at_some c.in_ok-done.field-0 _ _ c.in-Some.done c.in-Some.is c.in_ok-done.ensures.changes in
    changed (recorded_of m c.args.run.now) (state_of c.args.session.now) _ c.in-Some.done.items done.1 c.args.request done.0

pub returns-in-None-clause-answers : goal.returns-in-None-clause-answers
returns-in-None-clause-answers g c = λ m is.
    let r = recorded_of m c.args.run.now in
    let s = state_of c.args.session.now in
    let unchanged = at_none c.in_ok-done.field-0 _ _ c.in-None.is c.in_ok-done.ensures.changes in
    IfOk-weaker c.reply_to.result _ _
    (λ text x. subst (λ (u : State). Answers r s c.args.request text.items u) (ap (λ (y : Stopping). record s { stops = y }) (sym unchanged.1)) (replied r s c.args.request text.items x))
    (c.reply_to.ensures.replies m is)
