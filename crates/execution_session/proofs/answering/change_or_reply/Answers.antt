use Rattle.std.proofs.Common.{Option, ap, refl, subst, sym}
use Rattle.std.proofs.lemmas.Result.{IfOk-weaker}
use Rattle.execution_checker.proofs.Followed.{at_none}
use Rattle.execution_moments.proofs.Rising.{at_some}
use Rattle.execution_moments.specs.Looked.{looked_at}
use Rattle.gdb_talk.specs.Stops.{Stopping, stopping}
use Rattle.execution_session.specs.Answers.{IsAnswer, changes_by}
use Rattle.execution_session.specs.Sessions.{State, state_of}
use Rattle.execution_session.proofs.answering.change_or_reply.Goals as goal

pub returns-in-Some-clause-changes : goal.returns-in-Some-clause-changes
returns-in-Some-clause-changes c =
    let r = looked_at c.args.past.now in
    let s = state_of c.args.session.now in
    let changed = at_some c.in_ok-done.field-0 _ _ c.in-Some.done c.in-Some.is c.in_ok-done.ensures.changes in
    let t : State = record s { stops = stopping c.change.new.self } in
    subst (λ (o : Option Stopping). IsAnswer (changes_by r s c.args.request o) c.in-Some.done.items t) (sym changed.0) (changed.1, refl)

pub returns-in-None-clause-changes : goal.returns-in-None-clause-changes
returns-in-None-clause-changes c =
    let r = looked_at c.args.past.now in
    let s = state_of c.args.session.now in
    let unchanged = at_none c.in_ok-done.field-0 _ _ c.in-None.is c.in_ok-done.ensures.changes in
    let t : State = record s { stops = stopping c.change.new.self } in
    IfOk-weaker c.reply_to.result _ _
    (λ text wrote. subst (λ (o : Option Stopping). IsAnswer (changes_by r s c.args.request o) text.items t) (sym unchanged.0) (wrote, ap (λ (x : Stopping). record s { stops = x }) unchanged.1))
    c.reply_to.ensures
