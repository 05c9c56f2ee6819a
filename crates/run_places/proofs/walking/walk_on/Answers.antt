use Rattle.std.proofs.Common.{◌≡◌, ℕ, ◌<◌, List, [], length, get_or, sym, ap, ◌∙◌, subst, inl, inr, arith}
use Rattle.std.proofs.lemmas.Bool.{cases_lt}
use Rattle.std.proofs.lemmas.List.{append-nil, get_or_append_left, get_or_read}
use Rattle.own_moves.specs.Owned.{owns_of}
use Rattle.hart_ends.specs.Told.{ends_told}
use Rattle.hart_states.specs.Opening.{opening_of}
use Rattle.hart_states.specs.States.{listed}
use Rattle.run_places.specs.declared.following.Outcome.{Outcome}
use Rattle.run_places.specs.declared.place.Place.{Place}
use Rattle.run_places.specs.Following.{IsFollowed}
use Rattle.run_places.specs.Found.{IsOutcomeOf, end_found, offer_told}
use Rattle.run_places.specs.Spots.{Grows, spot_of, spots_of}
use Rattle.run_places.proofs.Followed.{each_followed, followed_on}
use Rattle.run_places.proofs.Standing.{covered_stays, grows_on, stays}
use Rattle.run_places.proofs.walking.walk_on.Goals as goal

-- a place that was there is where it was
same_place : (old new : List Place) (j : ℕ) (d : Place) → Grows old new → j < length old → get_or new j d ≡ get_or old j d
same_place old new j d g l = ap (λ (ps : List Place). get_or ps j d) g.behind ∙ get_or_append_left old g.more d j l

pub loop-done-init : goal.loop-done-init
loop-done-init c = record {
  grows = record { more = []; behind = sym (append-nil c.args.places.now.all.items) };
  followed = λ j d l. absurd (omega (arith, l));
}

pub loop-done-preserved : goal.loop-done-preserved
loop-done-preserved c =
    let i = c.loop-done.invariant in
    let old = c.loop-done.places.all.items in
    let new = c.take_in.new.places.all.items in
    let done = c.loop-done.done in
    let owns = owns_of c.args.against.now.owned.now in
    let harts = c.args.against.now.harts in
    let k = c.args.against.now.steps in
    let image = c.args.against.now.memory.pages.now.memory in
    let h = c.args.against.now.hart in
    let m = listed c.args.against.now.list.now in
    let opening = opening_of c.args.against.now.memory in
    let kept = c.in_ok-take_in-in-Whole.ensures in
    let found = c.in-Whole.found in
    let within : done < length old = (let l = c.if-done-len.false in omega (arith, l)) in
    let offers = listed c.loop-done.walk.offered.items in
    let offered = listed c.take_in.new.walk.offered.items in
    let ends = ends_told c.loop-done.walk.ends.items in
    let ended = ends_told c.take_in.new.walk.ends.items in
    record {
      grows = grows_on c.args.places.now.all.items old new i.grows kept.grows;
      followed = λ j d l. elim (cases_lt j done) [
        | inl small ↦
            subst (λ (p : Place). IsFollowed owns k image harts h m opening (spot_of p) offered ended (spots_of new)) (sym (same_place old new j d kept.grows (omega (arith, small, within))))
            (followed_on owns k image harts h m opening (spot_of (get_or old j d)) offers offered ends ended (spots_of old) (spots_of new) kept.offered_stay kept.ends_stay
            (λ q at. covered_stays m old new q kept.grows at) (i.followed j d small))
        | inr large ↦
            let here : IsFollowed owns k image harts h m opening (spot_of c.index.result.now) (offer_told found.offered) (end_found found.end) (spots_of found.reached.items) =
            subst (λ (o : Outcome). IsOutcomeOf owns k image harts h m opening (spot_of c.index.result.now) o) c.in-Whole.is c.in_ok-outcome.ensures in
            let same : c.index.result.now ≡ get_or new j d =
            get_or_read old done c.index.result.now within c.index.ensures d ∙ (ap (λ (n : ℕ). get_or old n d) (let e : done ≡ j = omega (arith, l, large) in e) ∙
            sym (same_place old new j d kept.grows (omega (arith, l, large, within)))) in
            subst (λ (p : Place). IsFollowed owns k image harts h m opening (spot_of p) offered ended (spots_of new)) same
            (followed_on owns k image harts h m opening (spot_of c.index.result.now) (offer_told found.offered) offered (end_found found.end) ended (spots_of found.reached.items) (spots_of new)
            kept.offered kept.ends (λ q at. kept.covered m q at) here)
      ];
    }

pub returns-then-done-len : goal.returns-then-done-len
returns-then-done-len c =
    let i = c.loop-done.invariant in
    let all = c.loop-done.places.all.items in
    let over = c.if-done-len.true in (
      spots_of all,
      (λ p there. stays c.args.places.now.all.items all p i.grows there),
      each_followed (owns_of c.args.against.now.owned.now) c.args.against.now.steps c.args.against.now.memory.pages.now.memory c.args.against.now.harts c.args.against.now.hart (listed c.args.against.now.list.now)
          (opening_of c.args.against.now.memory) (listed c.loop-done.walk.offered.items) (ends_told c.loop-done.walk.ends.items) all (spots_of all)
          (λ j d l. i.followed j d (omega (arith, l, over))),
    )
