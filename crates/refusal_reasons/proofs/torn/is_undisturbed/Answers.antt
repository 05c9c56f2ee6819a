use Rattle.std.proofs.Common.{arith, refl}
use Rattle.memory_order.specs.Orders.{order_position}
use Rattle.refusal_reasons.proofs.Tearing.{undisturbed_from_none, lies_past, none_at_next, position_at_most}
use Rattle.refusal_reasons.proofs.torn.is_undisturbed.Goals as goal

pub loop-p-init : goal.loop-p-init
loop-p-init c = λ v l b. lies_past c.args.events.now (order_position c.args.order.now) c.args.c c.args.x c.args.source v c.position_after-start.result c.position_after-start.ensures b l

pub loop-p-preserved : goal.loop-p-preserved
loop-p-preserved c =
    none_at_next c.args.events.now c.args.order.now c.args.c c.args.x c.args.source c.listed.result c.loop-p.p c.requires.ranked.lists c.listed.ensures.operation c.listed.ensures.position
    c.loop-p.invariant (λ b. let yes = c.lies_between.ensures.1 b in let no = c.if-lies_between.false in cc)

pub listed-requires-clause-within : goal.listed-requires-clause-within
listed-requires-clause-within c =
    let l = position_at_most c.args.order.now c.args.c in
    omega (arith, l, c.position_of-p-end.ensures.at, c.loop-p-test.true)

pub returns : goal.returns
returns c = (
  (λ _. undisturbed_from_none c.args.events.now (order_position c.args.order.now) c.args.c c.args.x c.args.source (c.precedes.ensures.0 c.if-not-precedes.false)
      (λ v l b. c.loop-p.invariant v (let k = b.before in omega (arith, k, c.loop-p-test.false, c.position_of-p-end.ensures.at)) b)),
  (λ _. refl),
)
