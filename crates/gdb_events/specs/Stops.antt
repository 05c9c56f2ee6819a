-- Why the run stands.
use Rattle.std.specs.Prelude.{ℕ, List, Option}
use Rattle.hart_step.specs.declared.hart.Hart.{Hart}
use Rattle.moments.specs.Sights.{Sight}
use Rattle.gdb_replies.specs.Replies.{stop_text}
use Rattle.gdb_replies.specs.declared.stop_reply.Reason.{Reason}
use Rattle.gdb_talk.specs.Told.{or_missing, stop_reply_of}

abbrev pub stop_answer : Reason → ℕ → Option (Sight Hart) → List ℕ
stop_answer why i s = or_missing s (λ (x : Sight Hart). stop_text (stop_reply_of why i x.hart))
