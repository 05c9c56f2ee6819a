use Rattle.std.proofs.Common.{◌-◌}
use Rattle.moments.specs.Hits.{tells}
use Rattle.moments.proofs.HitsFound.{On}
use Rattle.moments.proofs.hits.walk.Given as goal

abbrev pub invariant-loop-done : goal.invariant-loop-done
invariant-loop-done g l = On (tells l.asked l.number) (g.B.Bus.memory l.fn.b) l.fn.h l.quota l.code.first l.code.instructions l.counts.items l.done (g.B.Bus.memory l.b) l.h

abbrev pub decreases-loop-done : goal.decreases-loop-done
decreases-loop-done g l = l.quota - l.done
