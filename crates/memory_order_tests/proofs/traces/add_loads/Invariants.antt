use Rattle.std.proofs.Common.{All, ◌+◌, ◌<◌, ◌≤◌}
use Rattle.round_schedule.specs.Accesses.{place_of}
use Rattle.memory_order_tests.proofs.traces.add_loads.Given as goal

abbrev pub invariant-loop-place : goal.invariant-loop-place
invariant-loop-place l = record {
  below : All (λ e. place_of e.access < l.place) l.trace.events;
  room : l.to ≤ l.place + l.trace.room;
}
