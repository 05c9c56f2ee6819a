use Rattle.std.proofs.Common.{arith}
use Rattle.run_bounds.specs.Touched.{untouched}
use Rattle.own_moves.proofs.timing.needs_of_all.Goals as goal

pub loop-k-preserved : goal.loop-k-preserved
loop-k-preserved c = λ time each.
    let old = c.loop-k.invariant time each in
    let l = c.loop-k-test.true in
    let this = each c.loop-k.k (untouched 0) (omega (arith, l)) in
    let e = c.needs_of.ensures in
    let m = c.max-needs.ensures in
    omega (arith, old, this, e, m)
