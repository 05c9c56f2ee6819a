use Rattle.std.proofs.Common.{◌≡◌, ℕ, ◌≤◌, ◌<◌, length}
use Rattle.round_schedule.specs.Held.{held_from}
use Rattle.round_schedule.specs.Reservations.{entry}
use Rattle.gdb_events.proofs.held.note.Given as goal

abbrev pub invariant-loop-hart : goal.invariant-loop-hart
invariant-loop-hart l = record {
  count : length l.reservations.items ≡ length l.fn.reservations.items;
  done : (h : ℕ) → h < l.hart → entry l.reservations.items h ≡ held_from h (entry l.fn.reservations.items h) l.events;
  rest : (h : ℕ) → l.hart ≤ h → entry l.reservations.items h ≡ entry l.fn.reservations.items h;
}
