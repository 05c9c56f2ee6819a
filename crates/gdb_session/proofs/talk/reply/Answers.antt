use Rattle.std.proofs.Common.{[], inl, inr, refl, subst, sym}
use Rattle.gdb_packets.specs.declared.request.Request.{Request}
use Rattle.gdb_talk.specs.Saying.{refused_text}
use Rattle.gdb_talk.proofs.Killing.{unless_kill}
use Rattle.gdb_runs.specs.Sessions.{recorded_of, state_of}
use Rattle.gdb_session.specs.Serving.{RepliesTo}
use Rattle.gdb_session.proofs.talk.reply.Goals as goal

pub returns-in-Kill-clause-replies : goal.returns-in-Kill-clause-replies
returns-in-Kill-clause-replies g c = λ m is.
    let s = state_of c.args.session.now in
    let P : Request → Type 0 = λ q. RepliesTo (recorded_of m c.args.run.now) s q [] s in
    subst P (sym c.in-Kill.is) (refl, refl)

pub returns-in-Ok-clause-replies : goal.returns-in-Ok-clause-replies
returns-in-Ok-clause-replies g c = λ m is. unless_kill c.args.request _ _ c.in_default.not-Kill (inl (c.in-Ok.ensures.answers m is))

pub returns-in-Err-clause-replies : goal.returns-in-Err-clause-replies
returns-in-Err-clause-replies g c = λ m is. unless_kill c.args.request _ _ c.in_default.not-Kill (inr (refl, c.in-Err.ensures.refused))
