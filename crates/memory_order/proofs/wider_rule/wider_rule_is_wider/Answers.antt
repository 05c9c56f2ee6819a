use Rattle.memory_order.proofs.Wider.{wider_is_wider}
use Rattle.memory_order.proofs.wider_rule.wider_rule_is_wider.Goals as goal

pub returns : goal.returns
returns c = wider_is_wider
