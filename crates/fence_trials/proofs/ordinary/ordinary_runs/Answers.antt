use Rattle.std.proofs.Common.{arith}
use Rattle.fence_trials.proofs.ordinary.ordinary_runs.Goals as goal

pub returns : goal.returns
returns g c = λ i l.
    let r = c.loop-number.invariant i (omega (arith, l, c.loop-number-test.false)) in
    (r.0, r.1, r.2, r.3, c.settle.ensures r.1 r.4)
