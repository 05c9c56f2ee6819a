use Rattle.std.proofs.Common.{◌≡◌, ◌∷◌, List, Option, Some, length, ap, ◌∙◌, arith}
use Rattle.std.specs.Vec.Iter.{into_iter_items}
use Rattle.own_moves.specs.Owned.{owns_of}
use Rattle.all_checker.specs.declared.sighting.Sight.{Sight}
use Rattle.all_checker.specs.declared.sighting.Sight.TheVariants as sights
use Rattle.all_checker.proofs.Taken.{first_sight, no_fewer, sights_on}
use Rattle.all_checker.proofs.taking.take_batch.Goals as goal

pub take_in-requires-clause-sight : goal.take_in-requires-clause-sight
take_in-requires-clause-sight c =
    let at = c.loop-slot in
    let rest = into_iter_items c.next.new.self in
    let x = sights.Whole c.in-Some-Whole.sight in
    let is : c.in-Some.slot ≡ Some x = cc in
    let steps : into_iter_items at.slot-iterator ≡ c.in-Some.slot ∷ rest = c.in-Some.ensures.steps.0 in
    first_sight (owns_of c.args.program.now.owned.now) c.args.program.now.steps c.args.program.now.pages.now.memory (length c.args.program.now.maps.now) c.args.guest.now.see.now
    at.taken.nodes.all.items at.taken.done (into_iter_items at.slot-iterator) rest x (steps ∙ ap (λ (s : Option Sight). s ∷ rest) is) at.invariant.sights

pub loop-slot-preserved : goal.loop-slot-preserved
loop-slot-preserved c =
    let at = c.loop-slot in
    let i = at.invariant in
    let old = at.taken.nodes.all.items in
    let new = c.take_in.new.taken.nodes.all.items in
    let taken = c.in_ok-take_in-in-Some-Whole.ensures in
    let rest = into_iter_items c.next.new.self in
    let steps : into_iter_items at.slot-iterator ≡ c.in-Some.slot ∷ rest = c.in-Some.ensures.steps.0 in
    let short = ap (λ (ss : List (Option Sight)). length ss) steps in
    let one = taken.done in
    record {
      taken = taken.taken;
      left = (let was = i.left in let gone = c.in-Some.ensures.steps.1 in omega (arith, was, gone, short));
      done = (let was = i.done in omega (arith, was, one, short));
      within = (let was = i.within in let fewer = no_fewer old new taken.grow in omega (arith, was, one, short, fewer));
      sights = sights_on (owns_of c.args.program.now.owned.now) c.args.program.now.steps c.args.program.now.pages.now.memory (length c.args.program.now.maps.now) c.args.guest.now.see.now old new
          at.taken.done c.take_in.new.taken.done (into_iter_items at.slot-iterator) rest c.in-Some.slot taken.grow steps one i.within i.sights;
    }
