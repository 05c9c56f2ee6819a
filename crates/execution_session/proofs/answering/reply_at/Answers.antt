use Rattle.std.proofs.Common.{ℕ, List, ap, sym, ◌∙◌}
use Rattle.std.proofs.lemmas.Result.{IfOk-weaker}
use Rattle.gdb_packets.specs.Writing.{packet_text}
use Rattle.execution_moments.specs.Looked.{looked_at}
use Rattle.execution_session.proofs.Arriving.{not_known}
use Rattle.execution_session.proofs.answering.reply_at.Goals as goal

pub returns-in_default : goal.returns-in_default
returns-in_default c =
    IfOk-weaker c.reply_text-in_default.result _ _
    (λ text wrote. wrote ∙ ap packet_text (sym (not_known (looked_at c.args.past.now) c.args.standing c.args.request c.in_default.not-WhyStopped c.in_default.not-ThreadList c.in_default.not-IsAlive c.in_default.not-ReadRegisters c.in_default.not-ReadRegister c.in_default.not-ReadMemory)))
    c.reply_text-in_default.ensures
