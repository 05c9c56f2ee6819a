use Rattle.execution_moments.specs.Looked.{looked_at}
use Rattle.execution_session.proofs.Arriving.{not_fixed}
use Rattle.execution_session.proofs.answering.fixed_reply.Goals as goal

pub returns-in_default : goal.returns-in_default
returns-in_default c = not_fixed (looked_at c.args.past.now) c.args.standing c.args.request c.in_default.not-Features c.in_default.not-Description c.in_default.not-FirstThreads c.in_default.not-MoreThreads c.in_default.not-PresentThread c.in_default.not-Attached c.in_default.not-Change c.in_default.not-Actions c.in_default.not-Detach
