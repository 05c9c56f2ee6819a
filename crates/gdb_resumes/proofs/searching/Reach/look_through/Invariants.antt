use Rattle.std.proofs.Common.{◌≡◌, ◌≤◌}
use Rattle.machine.specs.Machine.{Running}
use Rattle.machine.specs.Untraced.{IsUntraced}
use Rattle.gdb_resumes.specs.Searches.{left_of}
use Rattle.gdb_runs.specs.Sessions.{recorded_of}
use Rattle.gdb_resumes.proofs.searching.Reach.look_through.Given as goal

abbrev pub invariant-loop-i : goal.invariant-loop-i
invariant-loop-i g l =
    (l.run ≡ l.fn.run)
    × (l.search.way ≡ l.fn.self.way)
    × (l.search.rounds ≤ l.fn.run.timeline.rounds)
    × ((m : Running) → IsUntraced m l.fn.run.timeline.start →
    left_of (recorded_of m l.fn.run) l.fn.self.way l.search.rounds l.telling l.here ≡ left_of (recorded_of m l.fn.run) l.fn.self.way l.fn.self.rounds l.telling l.here)
