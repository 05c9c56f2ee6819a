use Rattle.std.proofs.Common.{◌+◌, ◌<◌, length, ◌∙◌, arith}
use Rattle.std.proofs.Math.ListN.{length-set}
use Rattle.memory_order.proofs.Raising.{raise_at}
use Rattle.memory_order.proofs.checking.bounds.raised_to.Goals as goal

pub loop-k-preserved : goal.loop-k-preserved
loop-k-preserved c =
    let low : c.args.first + c.loop-k.k < length c.loop-k.numbers = omega (arith, c.loop-k.invariant.length, c.loop-k-test.true, c.requires) in
    record {
      length = length-set c.loop-k.numbers (c.args.first + c.loop-k.k) c.max.result ∙ c.loop-k.invariant.length;
      raised = raise_at c.args.numbers c.loop-k.numbers c.args.values c.args.first c.loop-k.k c.max.result low c.max.ensures c.loop-k.invariant.raised;
    }
