use Rattle.memory_order.proofs.Facts.{within}
use Rattle.memory_order.proofs.Ranking.{position_at}
use Rattle.memory_order.proofs.checking.kinds.listed.Goals as goal

pub returns-clause-within : goal.returns-clause-within
returns-clause-within c = within c.args.events.now _ (c.requires.lists.only c.args.p 0 c.requires.within)

pub returns-clause-operation : goal.returns-clause-operation
returns-clause-operation c = c.requires.lists.only c.args.p 0 c.requires.within

pub returns-clause-position : goal.returns-clause-position
returns-clause-position c = position_at c.args.order.now c.requires.lists.once c.args.p c.requires.within
