use Rattle.std.proofs.Common.{arith}
use Rattle.hart_step.proofs.Products.{mixed_high}
use Rattle.hart_step.proofs.numbers.multiply_high_mixed.Goals as goal

pub returns-else-a-lt9223372036854775808 : goal.returns-else-a-lt9223372036854775808
returns-else-a-lt9223372036854775808 c = mixed_high c.args.a c.args.b _ (omega arith) (omega arith) c.multiply_high_unsigned-high.ensures
