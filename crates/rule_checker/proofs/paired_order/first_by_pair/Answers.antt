use Rattle.std.proofs.Common.{arith, below_more, IsTrue}
use Rattle.memory_order.specs.Orders.{order_position}
use Rattle.memory_order.proofs.Facts.{within}
use Rattle.rule_checker.specs.Violations.{RespectsPairAt}
use Rattle.rule_checker.proofs.Firsts.{first_at, not_idle_pair}
use Rattle.rule_checker.proofs.paired_order.first_by_pair.Goals as goal

pub returns-then-not-respects_pair : goal.returns-then-not-respects_pair
returns-then-not-respects_pair c = first_at c.args.events.now (RespectsPairAt c.args.events.now (order_position c.args.order.now)) c.loop-i.i c.loop-i.invariant (λ respected.
    let yes : IsTrue c.respects_pair.result = c.respects_pair.ensures.1 (not_idle_pair c.args.events.now (order_position c.args.order.now) c.loop-i.i respected) in
    cc)

pub loop-i-preserved : goal.loop-i-preserved
loop-i-preserved c = below_more _ _ c.loop-i.invariant (λ op. c.respects_pair.ensures.0 c.if-not-respects_pair.false)

pub returns : goal.returns
returns c = λ b op. c.loop-i.invariant b (let l = within c.args.events.now b op in omega (arith, l)) op
