use Rattle.std.proofs.Common.{◌≡◌, ◌≤◌, ◌+◌, ◌++◌, length}
use Rattle.round_schedule.specs.Events.{events_of}
use Rattle.trace.specs.LentLogs.{accesses_lent}
use Rattle.trace.proofs.trace.Trace.push_all.Given as goal

abbrev pub invariant-loop-access : goal.invariant-loop-access
invariant-loop-access l = record {
  events : l.self.events ++ events_of l.round l.hart l.phase (accesses_lent l.left) ≡ l.fn.self.events ++ events_of l.round l.hart l.phase (accesses_lent l.fn.accesses);
  opening : l.self.opening ≡ l.fn.self.opening;
  fits : length (accesses_lent l.left) ≤ l.self.room;
  room : l.fn.self.room + length (accesses_lent l.left) ≤ l.self.room + length (accesses_lent l.fn.accesses);
}

abbrev pub decreases-loop-access : goal.decreases-loop-access
decreases-loop-access l = length (accesses_lent l.left)
