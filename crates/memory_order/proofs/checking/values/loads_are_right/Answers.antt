use Rattle.std.proofs.Common.{arith, below_more, refl}
use Rattle.memory_order.proofs.Facts.{within}
use Rattle.memory_order.proofs.Sources.{load_at}
use Rattle.memory_order.proofs.checking.values.loads_are_right.Goals as goal

pub loop-i-preserved : goal.loop-i-preserved
loop-i-preserved c = below_more _ _ c.loop-i.invariant (c.load_is_right.ensures.0 c.if-not-load_is_right.false)

pub returns : goal.returns
returns c = (
  λ h r x reads. let l = within c.args.events.now r (load_at c.args.events.now r x reads) in c.loop-i.invariant r (omega (arith, l)) x reads,
  λ h. refl,
)
