use Rattle.std.proofs.Common.{arith}
use Rattle.memory_order.specs.Orders.{order_position}
use Rattle.refusal_reasons.proofs.Breaking.{first_broken, none_more}
use Rattle.refusal_reasons.proofs.pairs.find_broken_at.Goals as goal

pub returns-in-Some-clause-first : goal.returns-in-Some-clause-first
returns-in-Some-clause-first c =
    first_broken c.in-Some.rule c.args.instructions.now c.args.events.now (order_position c.args.order.now) c.loop-first.first c.args.second c.in-Some.ensures.0 c.in-Some.ensures.1 c.loop-first.invariant

pub loop-first-preserved : goal.loop-first-preserved
loop-first-preserved c = none_more c.args.instructions.now c.args.events.now (order_position c.args.order.now) c.loop-first.first c.args.second c.loop-first.invariant c.in-None.ensures

pub returns-clause-first : goal.returns-clause-first
returns-clause-first c = λ rule n l. c.loop-first.invariant rule n (omega (arith, l, c.loop-first-test.false))
