use Rattle.memory_order.specs.Orders.{order_position}
use Rattle.memory_order.proofs.Facts.{within}
use Rattle.refusal_reasons.proofs.Breaking.{first_of_all, unbroken}
use Rattle.refusal_reasons.proofs.pairs.first_broken_at.Goals as goal

pub find_candidates-requires-clause-within : goal.find_candidates-requires-clause-within
find_candidates-requires-clause-within c = within c.args.events.now c.args.second c.requires.second.operation

pub find_broken_at-requires-clause-within : goal.find_broken_at-requires-clause-within
find_broken_at-requires-clause-within c = within c.args.events.now c.args.second c.requires.second.operation

pub returns : goal.returns
returns c =
    first_of_all c.in-Some.pair.rule c.args.instructions.now c.args.events.now (order_position c.args.order.now) c.in-Some.pair.first c.in-Some.pair.second c.args.second
    c.in-Some.ensures.at c.in-Some.ensures.first c.requires.second

pub unreachable-requires : goal.unreachable-requires
unreachable-requires c =
    c.requires.second.violated (unbroken c.args.instructions.now c.args.events.now c.args.order.now c.args.second c.requires.ranked.lists c.requires.second.operation c.in-None.ensures.first)
