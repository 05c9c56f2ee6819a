use Rattle.std.proofs.Common.{arith}
use Rattle.memory_order.proofs.Ranking.{position_at_most}
use Rattle.memory_order.proofs.checking.kinds.position_of.Goals as goal

pub returns-clause-at : goal.returns-clause-at
returns-clause-at c =
    let r = c.requires.ranked.1 c.args.i c.requires.within in
    let l = position_at_most c.args.order.now c.args.i in
    omega (arith, r, l, c.min.ensures)
