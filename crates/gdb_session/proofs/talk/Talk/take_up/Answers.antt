use Rattle.std.proofs.Common.{refl}
use Rattle.gdb_session.proofs.talk.Talk.take_up.Goals as goal

pub returns-in_default-clause-takes : goal.returns-in_default-clause-takes
returns-in_default-clause-takes g c = λ m is. (c.reply.ensures.replies m is, refl)
