use Rattle.std.proofs.Common.{◌≡◌, ◌≤◌, ◌-◌}
use Rattle.timelines.specs.Timelines.{IsThere}
use Rattle.timelines.proofs.timeline.Timeline.go_to.Given as goal

abbrev pub invariant-loop-self : goal.invariant-loop-self
invariant-loop-self g l = (l.self ≡ l.fn.self) × IsThere l.fn.self.start l.machine × (l.machine.rounds ≤ l.rounds)

abbrev pub decreases-loop-self : goal.decreases-loop-self
decreases-loop-self g l = l.rounds - l.machine.rounds
