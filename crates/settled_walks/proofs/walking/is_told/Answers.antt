use Rattle.std.proofs.Common.{rules}
use Rattle.settled_walks.proofs.walking.is_told.Goals as goal

pub returns : goal.returns
returns c = λ yes. record { apart = c.strays.ensures (search rules); calls = c.is_open_call.ensures c.if-is_open_call.false; within = c.is_within.ensures.0 yes }
