use Rattle.std.proofs.Common.{slice_index}
use Rattle.execution_moments.proofs.Timing.{LatestSoFar}
use Rattle.execution_moments.proofs.times.latest_loads.Given as goal

abbrev pub invariant-loop-index : goal.invariant-loop-index
invariant-loop-index l = LatestSoFar l.events (λ i. slice_index l.positions i) l.index l.latest.items l.found.items
