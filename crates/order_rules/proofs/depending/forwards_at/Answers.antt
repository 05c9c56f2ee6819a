use Rattle.std.proofs.Common.{◌≡◌, Some, sym, subst, ◌∙◌}
use Rattle.memory_order.proofs.Sources.{one_source}
use Rattle.order_rules.specs.Orders.{DependsBefore}
use Rattle.order_rules.proofs.depending.forwards_at.Goals as goal

pub returns-in-Some : goal.returns-in-Some
returns-in-Some c = (
  (λ h. let p = c.depends_before.ensures.0 h in
      (c.in-Some.m, p.0, p.1, sym c.reads_at.ensures ∙ c.if-not-reads_at.false, c.in-Some.ensures.source)),
  (λ q.
      let s = one_source c.args.events.now c.args.order.now c.args.b c.args.x (Some q.0) (Some c.in-Some.m) c.requires.ranked.lists q.4 c.in-Some.ensures.source in
      let e : q.0 ≡ c.in-Some.m = cc in
      c.depends_before.ensures.1 (subst (λ n. DependsBefore c.args.instructions.now c.args.events.now c.args.a n c.args.b) e (q.1, q.2))),
)
