use Rattle.std.proofs.Common.{◌≡◌, ℕ, get_or, ap, ◌∙◌, subst, inl, inr, arith}
use Rattle.std.proofs.lemmas.Bool.{cases_lt}
use Rattle.std.proofs.lemmas.List.{get_or_read}
use Rattle.early_reads.specs.Checking.{map_of}
use Rattle.hart_states.specs.States.{listed}
use Rattle.own_moves.specs.Owned.{owns_of}
use Rattle.run_places.specs.declared.place.Place.{Place}
use Rattle.run_places.specs.Spots.{spot_of, spots_of}
use Rattle.run_places.proofs.Standing.{ahead_stays}
use Rattle.settled_walks.specs.SettledPlaces.{IsSettledAt}
use Rattle.settled_walks.proofs.SettledSpots.{settled_more, settled_walk}
use Rattle.settled_walks.proofs.settling.settle.Goals as goal

pub loop-place-preserved : goal.loop-place-preserved
loop-place-preserved c = λ j d l.
    let f = map_of c.args.points.now in
    let owns = owns_of c.args.against.now.owned.now in
    let image = c.args.against.now.memory.pages.now.memory in
    let h = c.args.against.now.hart in
    let stays = c.args.stays.now in
    let m = listed c.args.against.now.list.now in
    let old = c.loop-place.new.all.items in
    let new = c.settle_at.new.new.all.items in
    let at = c.loop-place.place-index in
    let places = c.args.places.now in
    let place = c.place-item.result in
    let kept = c.in_ok-settled.ensures in
    elim (cases_lt j at) [
      | inl small ↦
          settled_more f owns image h stays m (spot_of (get_or places j d)) (spots_of old) (spots_of new) (λ q on. ahead_stays old new q kept.grows on) (c.loop-place.invariant j d small)
      | inr large ↦
          let same : place ≡ get_or places j d =
          get_or_read places at place c.loop-place-test.true c.place-item.is d ∙ ap (λ (n : ℕ). get_or places n d) (let e : at ≡ j = omega (arith, l, large) in e) in
          subst (λ (p : Place). IsSettledAt f owns image h stays m (spots_of new) (spot_of p)) same (kept.settled c.if-not-settled.false)
    ]

pub returns : goal.returns
returns c = λ n stores memory walk within free.
    settled_walk (map_of c.args.points.now) (owns_of c.args.against.now.owned.now) c.args.against.now.steps c.args.against.now.memory.pages.now.memory c.args.against.now.harts
    c.args.against.now.hart c.args.stays.now n (listed c.args.against.now.list.now) c.args.places.now (spots_of c.loop-place.new.all.items) c.stops_are_known.ensures
    c.settled_spots_are_late.ensures c.requires.right stores (λ j d l. c.loop-place.invariant j d (let over = c.loop-place-test.false in omega (arith, l, over))) walk within free
