use Rattle.std.proofs.Common.{◌<◌, length, ◌∙◌, arith, refl}
use Rattle.std.proofs.Math.ListN.{length-set}
use Rattle.memory_order.proofs.Raising.{write_at}
use Rattle.memory_order.proofs.checking.bounds.begun_by.Goals as goal

pub loop-k-preserved : goal.loop-k-preserved
loop-k-preserved c =
    let low : c.loop-k.k < length c.loop-k.numbers = omega (arith, c.loop-k.invariant.length, c.loop-k-test.true, c.requires) in
    record {
      length = length-set c.loop-k.numbers c.loop-k.k _ ∙ c.loop-k.invariant.length;
      written = write_at c.args.numbers c.loop-k.numbers c.args.others c.loop-k.k _ low refl c.loop-k.invariant.written;
    }
