use Rattle.std.proofs.Common.{arith}
use Rattle.run_places.proofs.Told.{output_told}
use Rattle.run_places.proofs.ahead.output_tells.Goals as goal

pub returns : goal.returns
returns c = λ yes.
    output_told c.args.told.now c.args.teller.now (omega arith) (λ k n small e. c.loop-index.invariant k n (let over = c.loop-index-test.false in omega (arith, over, small)) e)
