use Rattle.std.proofs.Common.{arith}
use Rattle.trace.specs.Traced.{opening_at}
use Rattle.memory_order.specs.Orders.{order_position}
use Rattle.memory_order.proofs.Facts.{within}
use Rattle.memory_order.proofs.Sources.{load_at}
use Rattle.refusal_reasons.specs.Reasons.{IsRightLoad}
use Rattle.order_rules.proofs.Sourcing.{below_next}
use Rattle.refusal_reasons.proofs.values.find_wrong.Goals as goal

pub loop-load-preserved : goal.loop-load-preserved
loop-load-preserved c =
    below_next (IsRightLoad c.args.events.now (opening_at c.args.opening.now.opening) (order_position c.args.order.now)) c.loop-load.load c.loop-load.invariant c.in-None.ensures

pub returns : goal.returns
returns c = λ r x h.
    c.loop-load.invariant r (let l = within c.args.events.now r (load_at c.args.events.now r x h) in omega (arith, l, c.loop-load-test.false)) x h
