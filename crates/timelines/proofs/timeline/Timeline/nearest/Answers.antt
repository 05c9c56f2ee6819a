use Rattle.std.proofs.Common.{subst, arith}
use Rattle.timelines.specs.Timelines.{IsThere, Line}
use Rattle.timelines.proofs.Stretches.{start_there}
use Rattle.timelines.proofs.timeline.Timeline.nearest.Goals.{then-rounds, else-rounds}
use Rattle.timelines.proofs.timeline.Timeline.nearest.Goals as goal

pub loop-machine-init : goal.loop-machine-init
loop-machine-init c =
    let inv = c.self.invariant in
    elim c.if-rounds.branch [
      | then-rounds w ↦ rw w.nearest-is (subst (λ (l : Line). IsThere l.start c.self.inside.here) c.self.view_is inv.later, omega (arith, c.rounds.ensures, w.if-rounds.true))
      | else-rounds w ↦ rw w.nearest-is (subst (λ (l : Line). IsThere l.start c.self.inside.start) c.self.view_is (start_there c.self.inside.start inv.fresh), omega (arith, inv.fresh))
    ]
