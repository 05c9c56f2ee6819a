use Rattle.std.proofs.Common.{◌∙◌, ap, arith, refl, subst, sym}
use Rattle.machine.specs.Untraced.{IsUntraced, Untraced}
use Rattle.replayer.proofs.PlaceSought.{behind_all, none_sought, sought_all}
use Rattle.replayer.specs.Visits.{IsBehind}
use Rattle.replayer.proofs.placing.seek.Goals as goal

pub walk-requires-clause-known : goal.walk-requires-clause-known
walk-requires-clause-known g c = λ lifetimes within. (
  refl,
  refl,
  none_sought c.args.hart c.args.place c.in_ok-last.last c.share.new.self c.args.rounds (ap (λ (u : Untraced). u.rounds) c.share.ensures.stays ∙ c.requires.opened) (omega (arith, c.ranges.rounds.fits))
      (c.in_ok-last.ensures.same ∙ sym c.share.ensures.stays),
)

pub returns-in-Ok-clause-round : goal.returns-in-Ok-clause-round
returns-in-Ok-clause-round g c = λ m is begins.
    let v = c.walk.new.visitor in
    let walked = c.in-Ok.ensures in
    sought_all c.args.hart c.args.place v.before v.found v.last c.share.new.self c.args.rounds c.in-Ok._rounds m walked.known.2 walked.ended (subst (λ (u : Untraced). IsUntraced m u) (sym c.share.ensures.stays) is) begins

pub returns-in-Ok-clause-behind : goal.returns-in-Ok-clause-behind
returns-in-Ok-clause-behind g c =
    let v = c.walk.new.visitor in
    let walked = c.in-Ok.ensures in
    subst (λ (u : Untraced). IsBehind u v.last c.args.rounds v.found) c.share.ensures.stays
    (behind_all c.share.new.self v.last c.args.rounds c.in-Ok._rounds v.found walked.most walked.known.2.behind)
