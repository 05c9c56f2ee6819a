use Rattle.std.proofs.Common.{◌≡◌, ◌≤◌, true}
use Rattle.memory_order.specs.Orders.{order_position}
use Rattle.order_rules.specs.declared.rule.OrderRule.{OrderRule}
use Rattle.order_rules.specs.Orders.{Asks}
use Rattle.order_rules.specs.Rules.{number_of}
use Rattle.order_rules.specs.Behind.{is_of_pair}
use Rattle.order_rules.proofs.candidates.is_paired_by.Given as goal

abbrev pub invariant-loop-rule : goal.invariant-loop-rule
invariant-loop-rule l = (k : OrderRule) → number_of k ≤ l.rule-index → is_of_pair k ≡ true → Asks k l.instructions l.events (order_position l.order) l.a l.b → ⊥
