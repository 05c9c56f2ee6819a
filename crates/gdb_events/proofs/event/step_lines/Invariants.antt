use Rattle.std.proofs.Common.{◌≡◌, take}
use Rattle.gdb_events.specs.Events.{step_lines}
use Rattle.gdb_events.proofs.event.step_lines.Given as goal

abbrev pub invariant-loop-event : goal.invariant-loop-event
invariant-loop-event l = l.line ≡ step_lines l.hart l.place (take l.event-index l.events)
