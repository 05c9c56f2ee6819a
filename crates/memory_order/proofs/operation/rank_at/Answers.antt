use Rattle.std.proofs.Common.{sym, arith}
use Rattle.std.proofs.lemmas.Bool.Decides.{nat_tests}
use Rattle.memory_order.proofs.Facts.{rank_past}
use Rattle.memory_order.proofs.operation.rank_at.Goals as goal

pub returns-in-None : goal.returns-in-None
returns-in-None c = sym (rank_past c.args.events.now c.args.index (grind (arith, nat_tests, c.in-None.ensures.lookup.0)))
