use Rattle.std.proofs.Common.{IfSome, ◌≡◌, Option, Some, subst, rules}
use Rattle.std.specs.Global.{Vec}
use Rattle.hart_states.specs.Opening.{opening_of}
use Rattle.hart_states.specs.States.{listed, stored_of}
use Rattle.hart_states.specs.declared.listed_store.ListedStore.{ListedStore}
use Rattle.own_moves.specs.Owned.{owns_of}
use Rattle.private_bytes.specs.PrivateWalks.{spot_with}
use Rattle.run_places.specs.declared.place.Place.{Place}
use Rattle.run_places.specs.Following.{CoverLater, CoverMoves}
use Rattle.run_places.specs.Spots.{spot_of, spots_of}
use Rattle.run_places.proofs.Offers.{next_by, no_next, offers_by}
use Rattle.run_places.proofs.following.follow.Goals as goal

pub returns : goal.returns
returns c =
    let owns = owns_of c.args.against.now.owned.now in
    let image = c.args.against.now.memory.pages.now.memory in
    let h = c.args.against.now.hart in
    let m = listed c.args.against.now.list.now in
    let opening = opening_of c.args.against.now.memory in
    let k = c.args.against.now.steps in
    let p = spot_of c.args.place.now in
    let places = c.in-Some-behind.places in
    let chosen = c.unless.result in
    let moves = subst (λ (r : Option (Vec Place)). IfSome r (λ (ps : Vec Place). CoverMoves owns k image h m opening p (spots_of ps.items))) c.in-Some-behind.is c.in_ok-behind.ensures.moves in
    let later = subst (λ (r : Option (Vec Place)). IfSome r (λ (ps : Vec Place). (t : ListedStore) → chosen ≡ Some t → CoverLater owns k image h m opening (spot_with p (stored_of t)) (spots_of ps.items)))
    c.in-Some-behind.is c.in_ok-behind.ensures.later in
    record {
      apart = c.strays.ensures (search rules);
      moves = moves;
      offers = λ s none shared offer.
          let next = no_next c.args.place.now.next none in
          offers_by owns k image h m opening p (spots_of places.items) c.owes_nothing-pays.result c.new_offer-offer.result chosen c.next_if.result s (c.new_offer-offer.ensures next s shared offer)
          (λ pays. c.next_if.ensures.offers pays next) c.unless.ensures later;
      grows = λ s next paid. next_by c.args.place.now.next c.next_if.result s next (λ t e. c.next_if.ensures.next t (c.owes_nothing-pays.ensures paid) e);
      calls = search rules;
      endings = c.in_ok-end.ensures c.owes_nothing-pays.ensures;
    }
