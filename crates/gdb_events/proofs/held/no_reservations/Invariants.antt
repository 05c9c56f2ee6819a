use Rattle.std.proofs.Common.{◌≡◌, ℕ, length, None}
use Rattle.round_schedule.specs.Reservations.{entry}
use Rattle.gdb_events.proofs.held.no_reservations.Given as goal

abbrev pub invariant-loop-i : goal.invariant-loop-i
invariant-loop-i l = record {
  count : length l.reservations.items ≡ l._i;
  none : (h : ℕ) → entry l.reservations.items h ≡ None;
}
