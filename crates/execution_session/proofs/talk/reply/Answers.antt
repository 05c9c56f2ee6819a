use Rattle.std.proofs.Common.{[], inl, inr, refl, sym, subst}
use Rattle.gdb_packets.specs.declared.request.Request.{Request}
use Rattle.gdb_talk.proofs.Killing.{unless_kill}
use Rattle.execution_session.specs.Serving.{RepliesTo}
use Rattle.execution_moments.specs.Looked.{looked_at}
use Rattle.execution_session.specs.Sessions.{state_of}
use Rattle.execution_session.proofs.talk.reply.Goals as goal

pub returns-in-Kill : goal.returns-in-Kill
returns-in-Kill c =
    let s = state_of c.args.session.now in
    let P : Request → Type 0 = λ q. RepliesTo (looked_at c.args.past.now) s q [] s in
    subst P (sym c.in-Kill.is) (refl, refl)

pub returns-in-Ok : goal.returns-in-Ok
returns-in-Ok c = unless_kill c.args.request _ _ c.in_default.not-Kill (inl c.in-Ok.ensures.answers)

pub returns-in-Err : goal.returns-in-Err
returns-in-Err c = unless_kill c.args.request _ _ c.in_default.not-Kill (inr (refl, c.in-Err.ensures.refused))
