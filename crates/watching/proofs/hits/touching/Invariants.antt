use Rattle.std.proofs.Common.{◌≡◌, ◌++◌, filter}
use Rattle.watching.specs.Events.{touches_some}
use Rattle.watching.proofs.hits.touching.Given as goal

abbrev pub invariant-loop-event : goal.invariant-loop-event
invariant-loop-event l = l.found.items ++ filter (touches_some l.watches) l.event-iterator ≡ filter (touches_some l.watches) l.trace.events
