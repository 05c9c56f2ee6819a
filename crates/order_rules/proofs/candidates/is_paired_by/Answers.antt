use Rattle.std.proofs.Common.{arith}
use Rattle.order_rules.proofs.Naming.{at_most_thirteen}
use Rattle.order_rules.proofs.candidates.is_paired_by.Goals as goal

pub returns : goal.returns
returns c = λ _ k of a. c.loop-rule.invariant k (let l = at_most_thirteen k in omega (arith, l, c.loop-rule-test.false)) of a
