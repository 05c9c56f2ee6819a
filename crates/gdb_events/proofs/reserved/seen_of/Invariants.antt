use Rattle.std.proofs.Common.{◌≡◌, filter, take}
use Rattle.gdb_events.specs.Reserved.{is_seen}
use Rattle.gdb_events.proofs.reserved.seen_of.Given as goal

abbrev pub invariant-loop-event : goal.invariant-loop-event
invariant-loop-event l = l.seen.items ≡ filter (is_seen l.moment l.done) (take l.event-index l.events)
