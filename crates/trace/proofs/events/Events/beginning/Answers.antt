use Rattle.std.proofs.Common.{ap, arith, length}
use Rattle.trace.proofs.events.Events.beginning.Goals as goal

pub invariant_of-result : goal.invariant_of-result
invariant_of-result c = (c.requires.filled, λ empty. absurd (omega (arith, c.requires.some, ap length empty)))
