use Rattle.early_reads.proofs.LeftOut.{opens_owing, opens_paid}
use Rattle.early_reads.proofs.early_bytes.is_open.Goals as goal

pub returns-then-leaves_some : goal.returns-then-leaves_some
returns-then-leaves_some c = λ held. opens_paid c.args.point.now (c.leaves_some.ensures c.if-leaves_some.true)

pub returns : goal.returns
returns c = λ held. opens_owing c.args.point.now (c.leaves_some-2.ensures held)
