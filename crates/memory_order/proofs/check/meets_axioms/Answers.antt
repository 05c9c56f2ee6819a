use Rattle.std.proofs.Common.{IsTrue}
use Rattle.trace.specs.Traced.{opening_at}
use Rattle.memory_order.specs.Orders.{order_position}
use Rattle.memory_order.specs.Checking.{source_of}
use Rattle.memory_order.proofs.Composing.{at_none, at_some}
use Rattle.memory_order.proofs.Preserving.{but_overlap_respected, overlap_respected, preserved_from}
use Rattle.memory_order.proofs.Valuing.{left_from_values, values_from_left}
use Rattle.memory_order.proofs.check.meets_axioms.Goals as goal

pub returns-then-not-branch : goal.returns-then-not-branch
returns-then-not-branch c = (
  λ h. cc,
  λ m.
      let yes : IsTrue c.in_ok-respects_but_overlap.field-0 = c.in_ok-respects_but_overlap.ensures.1 (but_overlap_respected c.args.events.now (order_position c.args.order.now) m.0) in
      cc,
)

pub returns-in-None : goal.returns-in-None
returns-in-None c = (
  λ h. cc,
  λ m.
      absurd (at_none c.in_ok-own.field-0 _ _ c.in-None.is c.in_ok-own.ensures (overlap_respected c.args.events.now (order_position c.args.order.now) m.0)),
)

pub returns-then-not-loads_are_right : goal.returns-then-not-loads_are_right
returns-then-not-loads_are_right c = (
  λ h. cc,
  λ m.
      let yes : IsTrue c.loads_are_right.result = c.loads_are_right.ensures.1
      (left_from_values c.args.events.now (opening_at c.args.trace.now.opening) c.args.order.now (λ r x. source_of c.args.order.now c.in_ok-sources.sources.items r x) c.requires.lists c.in_ok-sources.ensures.max m.1) in
      cc,
)

pub returns : goal.returns
returns c = (
  λ h. (
    preserved_from c.args.events.now (order_position c.args.order.now) (c.in_ok-respects_but_overlap.ensures.0 c.if-not-branch.false) (at_some c.in_ok-own.field-0 c.in-Some.own _ _ c.in-Some.is c.in_ok-own.ensures).0,
    values_from_left c.args.events.now (opening_at c.args.trace.now.opening) c.args.order.now (λ r x. source_of c.args.order.now c.in_ok-sources.sources.items r x) c.requires.lists c.in_ok-sources.ensures.max
        (c.loads_are_right.ensures.0 c.if-not-loads_are_right.false),
    c.in_ok-pairs_are_atomic.ensures.0 h,
  ),
  λ m. c.in_ok-pairs_are_atomic.ensures.1 m.2,
)
