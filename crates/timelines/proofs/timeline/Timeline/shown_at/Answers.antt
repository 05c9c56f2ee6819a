use Rattle.std.proofs.Common.{subst, sym}
use Rattle.machine.specs.Machine.{after_rounds}
use Rattle.machine.specs.Untraced.{IsUntraced}
use Rattle.timelines.specs.Timelines.{Line}
use Rattle.timelines.proofs.timeline.Timeline.shown_at.Goals as goal

pub returns-clause-sight : goal.returns-clause-sight
returns-clause-sight g c = λ m is.
    let there = subst (λ (l : Line). IsUntraced m l.start) (sym c.in_ok-machine.ensures.stays) is in
    c.shown_at_side-sight.ensures.sight (after_rounds c.args.point.now.moment.rounds m) (c.in_ok-machine.ensures.machine m is) (c.code-code.ensures.code m there)

pub shown_at_side-sight-requires-clause-run : goal.shown_at_side-sight-requires-clause-run
shown_at_side-sight-requires-clause-run g c κs within =
    let run = c.code-code.ensures.run in
    let there = subst (λ (l : Line). IsUntraced run.0 l.start) c.in_ok-machine.ensures.stays run.1 in
    (after_rounds c.args.point.now.moment.rounds run.0, c.in_ok-machine.ensures.machine run.0 there)
