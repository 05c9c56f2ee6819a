use Rattle.std.proofs.Common.{◌≡◌, ◌++◌, filter}
use Rattle.run_events.specs.Hits.{is_hit}
use Rattle.run_events.proofs.finding.add_hits.Given as goal

abbrev pub invariant-loop-event : goal.invariant-loop-event
invariant-loop-event l = l.found.items ++ filter (is_hit l.ranges) l.event-iterator ≡ l.fn.found.items ++ filter (is_hit l.ranges) l.trace.events
