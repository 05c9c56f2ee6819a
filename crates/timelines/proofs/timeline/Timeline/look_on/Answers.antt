use Rattle.machine.specs.Machine.{after_rounds}
use Rattle.machine.specs.Untraced.{Untraced}
use Rattle.round_steps.proofs.PointsFound.{found_one_way}
use Rattle.timelines.proofs.Stretches.{searched_there}
use Rattle.timelines.proofs.timeline.Timeline.look_on.Goals as goal

pub nearest-requires-clause-run : goal.nearest-requires-clause-run
nearest-requires-clause-run g c κs within =
    let u : Untraced = c.args.machine.now in
    let run = c.code-code.ensures.run in
    (after_rounds u.rounds run.0, c.requires.there run.0 run.1)

pub keep-requires : goal.keep-requires
keep-requires g c =
    let t = c.args.telling.now in
    let u : Untraced = c.args.machine.now in
    let found = rw c.in_ok-found.ensures at c.nearest.ensures in
    record {
      there = λ m is.
          searched_there c.args.way t.asked t.watches.items m c.args.rounds c.args.here.now u c.nearest.new.machine c.in_ok-found.found
          (found.nearest (after_rounds u.rounds m) (c.requires.there m is) (c.code-code.ensures.code m is));
    }

pub returns-in_ok-keep-clause-nearest : goal.returns-in_ok-keep-clause-nearest
returns-in_ok-keep-clause-nearest g c = λ m is.
    let t = c.args.telling.now in
    let u : Untraced = c.args.machine.now in
    let found = rw c.in_ok-found.ensures at c.nearest.ensures in
    found_one_way c.args.way t.asked t.watches.items (after_rounds u.rounds m) c.args.rounds c.args.here.now u c.nearest.new.machine c.in_ok-found.found
    (found.nearest (after_rounds u.rounds m) (c.requires.there m is) (c.code-code.ensures.code m is))

pub returns-else-is_none-clause-nearest : goal.returns-else-is_none-clause-nearest
returns-else-is_none-clause-nearest g c = λ m is.
    let t = c.args.telling.now in
    let u : Untraced = c.args.machine.now in
    let found = rw c.in_ok-found.ensures at c.nearest.ensures in
    found_one_way c.args.way t.asked t.watches.items (after_rounds u.rounds m) c.args.rounds c.args.here.now u c.nearest.new.machine c.in_ok-found.found
    (found.nearest (after_rounds u.rounds m) (c.requires.there m is) (c.code-code.ensures.code m is))
