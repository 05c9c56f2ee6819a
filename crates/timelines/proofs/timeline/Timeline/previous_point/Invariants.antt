use Rattle.std.proofs.Common.{◌≡◌, ◌+◌, ◌≤◌, min}
use Rattle.machine.specs.Machine.{Running}
use Rattle.machine.specs.Untraced.{IsUntraced}
use Rattle.round_steps.specs.Points.{previous_point_of}
use Rattle.timelines.proofs.timeline.Timeline.previous_point.Given as goal

abbrev pub invariant-loop-end : goal.invariant-loop-end
invariant-loop-end g l =
    (l.self ≡ l.fn.self)
    × (l.end ≤ l.fn.self.rounds)
    × (1 ≤ l.size)
    × ((m : Running) → IsUntraced m l.fn.self.start →
    previous_point_of l.telling.asked l.telling.watches.items m (min l.fn.self.rounds (l.here.moment.rounds + 1)) l.here
    ≡ previous_point_of l.telling.asked l.telling.watches.items m l.end l.here)

abbrev pub decreases-loop-end : goal.decreases-loop-end
decreases-loop-end g l = l.end
