use Rattle.std.proofs.Common.{◌≡◌, length}
use Rattle.round_schedule.specs.Reservations.{Tied}
use Rattle.machine.specs.Machine.{Running, after_rounds}
use Rattle.machine.specs.Untraced.{IsAfter, IsUntraced}
use Rattle.gdb_events.proofs.reserved.reservations_after.Given as goal

abbrev pub invariant-loop-i : goal.invariant-loop-i
invariant-loop-i g l = record {
  count : length l.reservations.items ≡ l.harts;
  counted : l.machine.rounds ≡ l._i;
  runs : IsAfter l._i l.fn.machine l.machine;
  tied : (m : Running) → IsUntraced m l.fn.machine → Tied l.reservations.items (after_rounds l._i m).state.trace;
}
