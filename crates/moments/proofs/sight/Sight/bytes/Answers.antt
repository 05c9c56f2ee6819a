use Rattle.std.proofs.Common.{arith}
use Rattle.moments.proofs.Loaded.{all_bytes, one_byte}
use Rattle.moments.proofs.sight.Sight.bytes.Goals as goal

pub loop-offset-preserved : goal.loop-offset-preserved
loop-offset-preserved c = one_byte _ _ _ _ _ _ c.loop-offset.invariant c.in-Some.ensures.within c.in-Some.ensures.byte c.in_ok-push-in-Some.ensures.items

pub returns-in-None : goal.returns-in-None
returns-in-None c = all_bytes _ _ _ _ _ c.loop-offset.invariant c.in-None.ensures.past (omega arith)
