use Rattle.std.proofs.Common.{arith}
use Rattle.early_reads.proofs.Numbers.{agrees_set}
use Rattle.early_reads.proofs.constants.are_there.Goals as goal

pub returns : goal.returns
returns c = λ same w o agrees values.
    let p = c.loop-k.invariant in
    agrees_set c.args.told.now c.args.before.now w c.args.register c.args.value o c.told-told (λ k l m. p k l (omega arith)) agrees values
