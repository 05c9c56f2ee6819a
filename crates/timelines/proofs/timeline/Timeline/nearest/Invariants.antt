use Rattle.std.proofs.Common.{◌≤◌}
use Rattle.timelines.specs.Timelines.{IsThere}
use Rattle.timelines.proofs.timeline.Timeline.nearest.Given as goal

abbrev pub invariant-loop-machine : goal.invariant-loop-machine
invariant-loop-machine l = IsThere l.fn.self.start l.nearest × (l.nearest.rounds ≤ l.rounds)
