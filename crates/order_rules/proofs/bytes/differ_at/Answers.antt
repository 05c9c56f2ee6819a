use Rattle.std.proofs.Common.{◌≡◌, ◌∙◌, true, false}
use Rattle.memory_order.proofs.Sources.{one_source}
use Rattle.order_rules.proofs.bytes.differ_at.Goals as goal

pub returns-then-not-are_apart : goal.returns-then-not-are_apart
returns-then-not-are_apart c = (
  (λ h. absurd (let g : false ≡ true = h in cc)),
  (λ d.
      let yes = c.are_apart.ensures.1 (λ e.
      d.7 (one_source c.args.events.now c.args.order.now c.args.a c.args.x d.0 c.source_of-first.result c.requires.ranked.lists d.5 c.source_of-first.ensures.source ∙ e
      ∙ one_source c.args.events.now c.args.order.now c.args.b c.args.x c.source_of-second.result d.1 c.requires.ranked.lists c.source_of-second.ensures.source d.6)) in
      let no = c.if-not-are_apart.true in
      absurd cc),
)

pub returns : goal.returns
returns c = (
  (λ h. (
    c.source_of-first.result,
    c.source_of-second.result,
    (c.both_read.ensures.0 c.if-not-both_read.false).0,
    (c.both_read.ensures.0 c.if-not-both_read.false).1,
    c.is_unstored_between.ensures.0 h,
    c.source_of-first.ensures.source,
    c.source_of-second.ensures.source,
    c.are_apart.ensures.0 c.if-not-are_apart.false,
  )),
  (λ d. c.is_unstored_between.ensures.1 d.4),
)
