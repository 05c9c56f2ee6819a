use Rattle.std.proofs.Common.{◌≤◌}
use Rattle.memory_order.specs.Orders.{order_position}
use Rattle.order_rules.specs.declared.rule.OrderRule.{OrderRule}
use Rattle.order_rules.specs.Orders.{Asks}
use Rattle.order_rules.specs.Rules.{number_of}
use Rattle.order_rules.proofs.asking.first_rule.Given as goal

abbrev pub invariant-loop-rule : goal.invariant-loop-rule
invariant-loop-rule l = (k : OrderRule) → number_of k ≤ l.rule-index → Asks k l.instructions l.events (order_position l.order) l.a l.b → ⊥
