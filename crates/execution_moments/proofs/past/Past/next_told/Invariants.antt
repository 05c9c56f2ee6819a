use Rattle.std.proofs.Common.{◌≡◌, ◌-◌}
use Rattle.execution_moments.specs.Looked.{end_of, looked_at}
use Rattle.execution_moments.specs.Told.{first_told, next_told, told_on}
use Rattle.execution_moments.proofs.past.Past.next_told.Given as goal

abbrev pub invariant-loop-time : goal.invariant-loop-time
invariant-loop-time l =
    let r = looked_at l.self in
    next_told r l.asked.each l.asked.faults l.asked.stops.items l.watches l.here
    ≡ first_told (told_on r l.asked.each l.asked.faults l.asked.stops.items l.watches l.here) l.time (end_of r - l.time)
