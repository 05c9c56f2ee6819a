use Rattle.std.proofs.Common.{arith, sym}
use Rattle.round_schedule.proofs.NumberBytes.{past_byte}
use Rattle.round_schedule.proofs.access.byte_of.Goals as goal

pub returns-else-k-lt8 : goal.returns-else-k-lt8
returns-else-k-lt8 c = sym (past_byte c.args.number c.args.k (omega arith) (omega arith))
