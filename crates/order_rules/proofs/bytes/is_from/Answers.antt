use Rattle.std.proofs.Common.{Some, sym, subst, ◌∙◌}
use Rattle.memory_order.specs.Orders.{order_position}
use Rattle.memory_order.specs.Rvwmo.{IsSource}
use Rattle.memory_order.proofs.Sources.{one_source}
use Rattle.order_rules.proofs.bytes.is_from.Goals as goal

pub returns : goal.returns
returns c = (
  (λ h. (
    sym c.reads_at.ensures ∙ c.if-not-reads_at.false,
    subst (IsSource c.args.events.now (order_position c.args.order.now) c.args.b c.args.x) (c.are_one.ensures.0 h) c.source_of-source.ensures.source,
  )),
  (λ p. c.are_one.ensures.1
      (one_source c.args.events.now c.args.order.now c.args.b c.args.x c.source_of-source.result (Some c.args.a) c.requires.ranked.lists c.source_of-source.ensures.source p.1)),
)
