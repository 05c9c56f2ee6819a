use Rattle.std.proofs.Common.{subst, sym, ◌∙◌}
use Rattle.machine.specs.Untraced.{IsUntraced, Untraced}
use Rattle.round_steps.proofs.PointsFound.{points_are}
use Rattle.round_steps.proofs.points.points_in_round.Goals as goal

pub returns-clause-told : goal.returns-clause-told
returns-clause-told g c = λ m is code.
    let stays = c.in_ok-places.ensures.stays in
    let there : IsUntraced m c.places_asked.new.machine = subst (λ (u : Untraced). IsUntraced m u) (sym stays) is in
    points_are m c.args.way c.args.asked.now c.args.watches.now c.rounds-rounds.result _ _ _ _ _ _
    (c.rounds-rounds.ensures ∙ is.rounds)
    (c.deref.ensures.value ∙ c.in_ok-places.ensures.places m is code)
    (c.deref-2.ensures.value ∙ c.in_ok-harts.ensures ∙ c.harts.ensures.harts ∙ there.harts)
    (c.deref-3.ensures.value ∙ c.in_ok-hits.ensures.hits m there)
    c.new-told.ensures.items
    c.in_ok-add_places.ensures
    c.in_ok-add_hits.ensures
