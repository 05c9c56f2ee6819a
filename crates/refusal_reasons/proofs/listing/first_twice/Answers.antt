use Rattle.std.proofs.Common.{arith, get_or}
use Rattle.memory_order.proofs.Facts.{within}
use Rattle.refusal_reasons.proofs.Once.{stands_twice}
use Rattle.refusal_reasons.proofs.listing.first_twice.Goals as goal

pub bounds-firsts-order : goal.bounds-firsts-order
bounds-firsts-order c =
    let l = within c.args.events.now (get_or c.args.order.now c.loop-p.p 0) (c.requires.operations c.loop-p.p c.loop-p-test.true) in
    omega (arith, l, c.requires.firsts.size)

pub offset_bounds-firsts-order : goal.offset_bounds-firsts-order
offset_bounds-firsts-order c =
    let l = within c.args.events.now (get_or c.args.order.now c.loop-p.p 0) (c.requires.operations c.loop-p.p c.loop-p-test.true) in
    omega (arith, l, c.requires.firsts.size, c.well_formed)

pub returns-then-firsts-order : goal.returns-then-firsts-order
returns-then-firsts-order c =
    stands_twice c.args.events.now c.args.order.now c.args.firsts.now c.loop-p.p c.requires.firsts c.loop-p-test.true
    (within c.args.events.now (get_or c.args.order.now c.loop-p.p 0) (c.requires.operations c.loop-p.p c.loop-p-test.true)) c.if-firsts-order.true
