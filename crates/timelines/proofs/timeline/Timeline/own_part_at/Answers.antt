use Rattle.std.proofs.Common.{subst, sym}
use Rattle.machine.specs.Machine.{after_rounds}
use Rattle.machine.specs.Untraced.{IsUntraced}
use Rattle.timelines.specs.Timelines.{Line}
use Rattle.timelines.proofs.OwnPartsDone.{stores_there, waits_there}
use Rattle.timelines.proofs.timeline.Timeline.own_part_at.Goals as goal

pub returns-clause-stores : goal.returns-clause-stores
returns-clause-stores g c = λ m is.
    let there = subst (λ (l : Line). IsUntraced m l.start) (sym c.in_ok-machine.ensures.stays) is in
    stores_there (after_rounds c.args.point.now.moment.rounds m) c.in_ok-machine.machine c.code.result.now c.args.point.now.moment.place c.args.number c.in_ok-part.part.stores.items
    (c.in_ok-machine.ensures.machine m is) (c.code.ensures.code m there) c.in_ok-part.ensures.stores

pub returns-clause-waits : goal.returns-clause-waits
returns-clause-waits g c = λ m is.
    let there = subst (λ (l : Line). IsUntraced m l.start) (sym c.in_ok-machine.ensures.stays) is in
    waits_there (after_rounds c.args.point.now.moment.rounds m) c.in_ok-machine.machine c.code.result.now c.args.point.now.moment.place c.args.number c.in_ok-part.part.waits
    (c.in_ok-machine.ensures.machine m is) (c.code.ensures.code m there) c.in_ok-part.ensures.waits
