use Rattle.std.proofs.Common.{refl, arith}
use Rattle.hart_moves.proofs.Settled.{all_before}
use Rattle.hart_moves.proofs.ending.all_before.Goals as goal

pub returns : goal.returns
returns c = (λ yes x. all_before c.args.bytes.now c.args.time (λ k d l. c.loop-index.invariant k d (let over = c.loop-index-test.false in omega (arith, l, over))) x, λ all. refl)
