use Rattle.std.proofs.Common.{◌≡◌, ◌++◌}
use Rattle.trace.proofs.event_list.EventList.to_vec.Given as goal

abbrev pub invariant-loop-event : goal.invariant-loop-event
invariant-loop-event l = l.events.items ++ l.event-iterator ≡ l.self.events
