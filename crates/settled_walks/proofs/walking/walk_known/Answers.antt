use Rattle.std.proofs.Common.{◌≡◌, ℕ, ◌<◌, List, [], length, get_or, Option, IfSome, sym, ap, ◌∙◌, subst, inl, inr, arith}
use Rattle.std.proofs.lemmas.Bool.{cases_lt}
use Rattle.std.proofs.lemmas.List.{append-nil, get_or_append_left, get_or_read}
use Rattle.std.specs.Global.{Vec}
use Rattle.hart_states.specs.Opening.{opening_of}
use Rattle.hart_states.specs.States.{listed}
use Rattle.own_moves.specs.Owned.{owns_of}
use Rattle.run_places.specs.declared.place.Place.{Place}
use Rattle.run_places.specs.Spots.{Grows, spot_of, spots_of}
use Rattle.run_places.proofs.Standing.{ahead_stays, grows_on}
use Rattle.settled_walks.specs.KnownWalks.{IsKnownAt}
use Rattle.settled_walks.proofs.SettledSpots.{all_known, known_more}
use Rattle.settled_walks.proofs.walking.walk_known.Goals as goal

-- a place that was there is where it was
same_place : (old new : List Place) (j : ℕ) (d : Place) → Grows old new → j < length old → get_or new j d ≡ get_or old j d
same_place old new j d g l = ap (λ (ps : List Place). get_or ps j d) g.behind ∙ get_or_append_left old g.more d j l

pub loop-done-init : goal.loop-done-init
loop-done-init c = record {
  grows = record { more = []; behind = sym (append-nil c.args.places.now.all.items) };
  known = λ j d l. absurd (omega (arith, l));
}

pub loop-done-preserved : goal.loop-done-preserved
loop-done-preserved c =
    let i = c.loop-done.invariant in
    let old = c.loop-done.places.all.items in
    let all = c.add_all.new.places.all.items in
    let done = c.loop-done.done in
    let owns = owns_of c.args.against.now.owned.now in
    let harts = c.args.against.now.harts in
    let k = c.args.against.now.steps in
    let image = c.args.against.now.memory.pages.now.memory in
    let h = c.args.against.now.hart in
    let m = listed c.args.against.now.list.now in
    let opening = opening_of c.args.against.now.memory in
    let kept = c.in_ok-add_all-in-Some.ensures in
    let found = c.in-Some.reached in
    let within : done < length old = (let l = c.if-done-len.false in omega (arith, l)) in
    record {
      grows = grows_on c.args.places.now.all.items old all i.grows kept.grows;
      known = λ j d l. elim (cases_lt j done) [
        | inl small ↦
            subst (λ (p : Place). IsKnownAt owns k image harts h m opening (spots_of all) (spot_of p)) (sym (same_place old all j d kept.grows (omega (arith, small, within))))
            (known_more owns k image harts h m opening (spot_of (get_or old j d)) (spots_of old) (spots_of all) (λ q at. ahead_stays old all q kept.grows at) (i.known j d small))
        | inr large ↦
            let here : IsKnownAt owns k image harts h m opening (spots_of found.items) (spot_of c.index.result.now) =
            subst (λ (o : Option (Vec Place)). IfSome o (λ (ps : Vec Place). IsKnownAt owns k image harts h m opening (spots_of ps.items) (spot_of c.index.result.now))) c.in-Some.is
            c.in_ok-reached.ensures in
            let same : c.index.result.now ≡ get_or all j d =
            get_or_read old done c.index.result.now within c.index.ensures d ∙ (ap (λ (n : ℕ). get_or old n d) (let e : done ≡ j = omega (arith, l, large) in e) ∙
            sym (same_place old all j d kept.grows (omega (arith, l, large, within)))) in
            subst (λ (p : Place). IsKnownAt owns k image harts h m opening (spots_of all) (spot_of p)) same
            (known_more owns k image harts h m opening (spot_of c.index.result.now) (spots_of found.items) (spots_of all) kept.ahead here)
      ];
    }

pub returns-then-done-len : goal.returns-then-done-len
returns-then-done-len c =
    let i = c.loop-done.invariant in
    let over = c.if-done-len.true in
    record {
      grows = λ yes. i.grows;
      known = λ yes.
          all_known (owns_of c.args.against.now.owned.now) c.args.against.now.steps c.args.against.now.memory.pages.now.memory c.args.against.now.harts c.args.against.now.hart
          (listed c.args.against.now.list.now) (opening_of c.args.against.now.memory) c.loop-done.places.all.items (λ j d l. i.known j d (omega (arith, l, over)));
    }
