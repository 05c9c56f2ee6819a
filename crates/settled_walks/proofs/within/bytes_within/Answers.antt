use Rattle.std.proofs.Common.{refl, arith}
use Rattle.settled_walks.specs.Within.{IsByteWithin}
use Rattle.settled_walks.proofs.KeptBytes.{each_known}
use Rattle.settled_walks.proofs.within.bytes_within.Goals as goal

pub returns : goal.returns
returns c = (
  λ yes. each_known (IsByteWithin c.args.time) c.args.bytes.now (λ x. record { touched = omega arith; needs = omega arith })
      (λ k d l. c.loop-index.invariant k d (let over = c.loop-index-test.false in omega (arith, l, over))),
  λ all. refl,
)
