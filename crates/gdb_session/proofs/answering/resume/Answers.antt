use Rattle.std.proofs.Common.{◌≡◌, Option, Some, None, ap, subst}
use Rattle.std.proofs.lemmas.Result.{IfOk-weaker}
use Rattle.gdb_runs.specs.declared.session.Session.{Session}
use Rattle.gdb_runs.specs.declared.session.Standing.{Standing}
use Rattle.gdb_runs.specs.Sessions.{Recorded, recorded_of, state_of}
use Rattle.gdb_runs.proofs.Runs.{of_same}
use Rattle.gdb_session.specs.Answers.{Moves, stands_packets}
use Rattle.gdb_session.proofs.answering.resume.Goals as goal

pub returns-in_ok-text-in-Some-clause-resumes : goal.returns-in_ok-text-in-Some-clause-resumes
returns-in_ok-text-in-Some-clause-resumes g c = λ m is.
    let d = c.args.run.now in
    let s = state_of c.args.session.now in
    let r = recorded_of m d in
    let t = c.in-Some.standing in
    let P : Option Standing → Type 0 = λ x. Moves r s c.args.request x in
    let W : Recorded → Type 0 = λ q. c.in_ok-text-in-Some.text.items ≡ stands_packets q t in
    record {
      to = Some t;
      moves = subst P c.in-Some.is (c.in_ok-standing.ensures.standing m is);
      stands = (
        of_same d c.standing_after.new.run W c.in_ok-standing.ensures.stays c.in_ok-text-in-Some.ensures.text m is,
        ap (λ (x : Session). state_of (record x { standing = t })) c.in_ok-standing.ensures.session,
      );
    }

pub returns-in-None-clause-resumes : goal.returns-in-None-clause-resumes
returns-in-None-clause-resumes g c = λ m is.
    let s = state_of c.args.session.now in
    let r = recorded_of m c.args.run.now in
    let P : Option Standing → Type 0 = λ x. Moves r s c.args.request x in
    IfOk-weaker c.reply_text.result _ _
    (λ text e. record {
      to = None;
      moves = subst P c.in-None.is (c.in_ok-standing.ensures.standing m is);
      stands = (e, ap state_of c.in_ok-standing.ensures.session);
    })
    c.reply_text.ensures
