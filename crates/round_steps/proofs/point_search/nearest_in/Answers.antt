use Rattle.std.proofs.Common.{◌≡◌, ℕ, ◌+◌, false, None, refl, sym, ap, subst, ◌∙◌, arith}
use Rattle.machine.specs.Machine.{after_rounds}
use Rattle.machine.specs.Untraced.{IsUntraced}
use Rattle.watching.specs.declared.watchpoint.Way.{Way}
use Rattle.watching.specs.declared.watchpoint.Way.TheVariants.{On, Back}
use Rattle.round_steps.specs.Points.{ends, nearest_point_of}
use Rattle.round_steps.proofs.PointsFound.{finds_all, finds_early, nearest_at_first, nearest_now, nearest_of_points}
use Rattle.round_steps.proofs.Searching.{begins_there, goes_on_there}
use Rattle.round_steps.proofs.point_search.nearest_in.Goals as goal

goes_at_first : (way : Way) → ends way None ≡ false
goes_at_first On = refl
goes_at_first Back = refl

pub loop-done-init : goal.loop-done-init
loop-done-init g c = (
  omega arith,
  λ m is. begins_there m c.args.machine.now is,
  goes_at_first c.args.way,
  λ m is code. nearest_at_first c.args.way c.args.asked.now c.args.watches.now m c.args.here.now,
)

pub points_in_round-requires-clause-run : goal.points_in_round-requires-clause-run
points_in_round-requires-clause-run g c = λ κs within. (after_rounds c.loop-done.done c.requires.run.0, c.loop-done.invariant.1 c.requires.run.0 c.requires.run.1)

pub returns-then-ends-clause-nearest : goal.returns-then-ends-clause-nearest
returns-then-ends-clause-nearest g c = λ m is code.
    let inv = c.loop-done.invariant in
    let way = c.args.way in
    let a = c.args.asked.now in
    let ws = c.args.watches.now in
    let here = c.args.here.now in
    finds_early way a ws m (c.loop-done.done + 1) c.args.rounds here c.args.machine.now c.points_in_round.new.machine _ (omega arith) (sym c.ends.ensures ∙ c.if-ends.true)
    (goes_on_there c.loop-done.done m c.points_in_round.new.machine (c.in_ok-told.ensures.runs (after_rounds c.loop-done.done m) (inv.1 m is)))
    (omega (arith, c.in_ok-told.ensures.counted, inv.0))
    (nearest_now way a ws m c.loop-done.done here _ _ _ inv.2 (inv.3 m is code)
    (nearest_of_points way a ws (after_rounds c.loop-done.done m) here _ _ (c.deref.ensures.value ∙ c.in_ok-told.ensures.told (after_rounds c.loop-done.done m) (inv.1 m is) code) c.nearest_of.ensures) c.or_else-found.ensures)

pub loop-done-preserved : goal.loop-done-preserved
loop-done-preserved g c =
    let inv = c.loop-done.invariant in
    let way = c.args.way in
    let a = c.args.asked.now in
    let ws = c.args.watches.now in
    let here = c.args.here.now in (
      omega (arith, c.in_ok-told.ensures.counted, inv.0),
      λ m is. goes_on_there c.loop-done.done m c.points_in_round.new.machine (c.in_ok-told.ensures.runs (after_rounds c.loop-done.done m) (inv.1 m is)),
      sym c.ends.ensures ∙ c.if-ends.false,
      λ m is code. nearest_now way a ws m c.loop-done.done here _ _ _ inv.2 (inv.3 m is code)
          (nearest_of_points way a ws (after_rounds c.loop-done.done m) here _ _ (c.deref.ensures.value ∙ c.in_ok-told.ensures.told (after_rounds c.loop-done.done m) (inv.1 m is) code) c.nearest_of.ensures) c.or_else-found.ensures,
    )

pub returns-clause-nearest : goal.returns-clause-nearest
returns-clause-nearest g c = λ m is code.
    let inv = c.loop-done.invariant in
    let way = c.args.way in
    let a = c.args.asked.now in
    let ws = c.args.watches.now in
    let here = c.args.here.now in
    let all : c.loop-done.done ≡ c.args.rounds = omega arith in
    finds_all way a ws m c.args.rounds here c.args.machine.now c.loop-done.machine c.loop-done.found
    (subst (λ (n : ℕ). IsUntraced (after_rounds n m) c.loop-done.machine) all (inv.1 m is)) (omega (arith, inv.0))
    (inv.3 m is code ∙ ap (λ (n : ℕ). nearest_point_of way a ws m n here) all)
