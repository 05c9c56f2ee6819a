use Rattle.std.proofs.Common.{◌≡◌, take}
use Rattle.round_schedule.specs.Held.{held_from}
use Rattle.gdb_events.proofs.held.held_from.Given as goal

abbrev pub invariant-loop-event : goal.invariant-loop-event
invariant-loop-event l = l.held ≡ held_from l.hart l.fn.before (take l.event-index l.events)
