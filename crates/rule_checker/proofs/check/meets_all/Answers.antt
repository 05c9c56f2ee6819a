use Rattle.std.proofs.Common.{IsTrue}
use Rattle.trace.specs.Traced.{opening_at}
use Rattle.memory_order.specs.Checking.{source_of}
use Rattle.memory_order.proofs.Composing.{at_none, at_some}
use Rattle.memory_order.proofs.Valuing.{left_from_values, values_from_left}
use Rattle.rule_checker.proofs.check.meets_all.Goals as goal

pub returns-then-not-loads_are_right : goal.returns-then-not-loads_are_right
returns-then-not-loads_are_right c = (
  λ h. cc,
  λ m.
      let yes : IsTrue c.loads_are_right.result = c.loads_are_right.ensures.1
      (left_from_values c.args.events.now (opening_at c.args.opening.now.opening) c.args.order.now (λ r x. source_of c.args.order.now c.in_ok-sources.sources.items r x) c.requires.lists c.in_ok-sources.ensures.max m.1) in
      cc,
)

pub returns-in-Some : goal.returns-in-Some
returns-in-Some c = (
  λ h. cc,
  λ m.
      let first = at_some c.in_ok-broken.broken c.in-Some.field-0 _ _ c.in-Some.is c.in_ok-broken.ensures in
      absurd (first.violated (λ a oa before rule. m.0 a _ oa first.operation before rule)),
)

pub returns : goal.returns
returns c = (
  λ h. (
    at_none c.in_ok-broken.broken _ _ c.in-None.is c.in_ok-broken.ensures,
    values_from_left c.args.events.now (opening_at c.args.opening.now.opening) c.args.order.now (λ r x. source_of c.args.order.now c.in_ok-sources.sources.items r x) c.requires.lists c.in_ok-sources.ensures.max
        (c.loads_are_right.ensures.0 c.if-not-loads_are_right.false),
    c.in_ok-pairs_are_atomic-in-None.ensures.0 h,
  ),
  λ m. c.in_ok-pairs_are_atomic-in-None.ensures.1 m.2,
)
