use Rattle.std.proofs.Common.{◌≡◌, List}
use Rattle.round_schedule.specs.declared.event.Event.{Event}
use Rattle.round_schedule.specs.Reservations.{Tied}
use Rattle.gdb_events.specs.Reserved.{held_lines}
use Rattle.gdb_events.proofs.reserved.held_lines.Given as goal

abbrev pub invariant-loop-hart : goal.invariant-loop-hart
invariant-loop-hart l = (t : List Event) → Tied l.reservations t → l.text.items ≡ held_lines t l.hart
