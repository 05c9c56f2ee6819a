use Rattle.std.proofs.Common.{arith}
use Rattle.hart_step.proofs.Products.{both_high}
use Rattle.hart_step.proofs.numbers.multiply_high_signed.Goals as goal

pub returns-else-b-lt9223372036854775808 : goal.returns-else-b-lt9223372036854775808
returns-else-b-lt9223372036854775808 c = both_high c.args.a c.args.b _ (omega arith) (omega arith) c.multiply_high_mixed-high.ensures
