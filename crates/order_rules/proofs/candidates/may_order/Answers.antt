use Rattle.memory_order.specs.Orders.{order_position}
use Rattle.order_rules.proofs.Going.{none_asks}
use Rattle.order_rules.proofs.candidates.may_order.Goals as goal

pub returns-then-not-is_same_hart : goal.returns-then-not-is_same_hart
returns-then-not-is_same_hart c = λ _ before. absurd (let yes = c.is_same_hart.ensures.1 before.same_hart in let no = c.if-not-is_same_hart.true in cc)

pub returns : goal.returns
returns c = λ no before.
    none_asks c.args.instructions.now c.args.events.now (order_position c.args.order.now) c.args.a c.args.b c.args.behind.now c.requires.behind before
    (c.is_kept.ensures.loads c.if-is_kept.false) (c.is_kept.ensures.stores c.if-is_kept.false) (c.is_kept.ensures.needed c.if-is_kept.false) (c.is_paired_by.ensures no)
