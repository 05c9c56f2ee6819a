use Rattle.std.proofs.Common.{◌≡◌}
use Rattle.execution_moments.specs.Looked.{looked_at}
use Rattle.execution_moments.specs.Told.{last_told, previous_told, told_back}
use Rattle.execution_moments.proofs.past.Past.previous_told.Given as goal

abbrev pub invariant-loop-time : goal.invariant-loop-time
invariant-loop-time l =
    let r = looked_at l.self in
    previous_told r l.asked.each l.asked.faults l.asked.stops.items l.watches l.here ≡ last_told (told_back r l.asked.each l.asked.faults l.asked.stops.items l.watches l.here) l.time

abbrev pub decreases-loop-time : goal.decreases-loop-time
decreases-loop-time l = l.time
