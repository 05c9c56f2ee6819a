use Rattle.std.proofs.Common.{slice_index}
use Rattle.execution_moments.proofs.Timing.{Delayed}
use Rattle.execution_moments.proofs.times.delay.Given as goal

abbrev pub invariant-loop-index : goal.invariant-loop-index
invariant-loop-index l = Delayed l.events (λ i. slice_index l.positions i) l.end l.index l.soonest.items l.times.items

abbrev pub decreases-loop-index : goal.decreases-loop-index
decreases-loop-index l = l.index
