use Rattle.std.proofs.Common.{◌≡◌, ◌∙◌, List, length, Contains, map-id, sym, ap, subst, inl, inr, rules}
use Rattle.std.proofs.lemmas.Iterator.Adapters.{YieldsList-from_vec}
use Rattle.std.proofs.lemmas.Iterator.Consumers.{YieldsList-end}
use Rattle.std.specs.Vec.Iter.{into_iter_items, into_iter_len}
use Rattle.std.proofs.lemmas.List.Elements.{Contains-push_cases}
use Rattle.own_moves.specs.Moves.{FollowsApart}
use Rattle.private_bytes.specs.PrivateWalks.{spot_with}
use Rattle.hart_states.specs.States.{listed, state_of, stored_of}
use Rattle.hart_states.specs.declared.following.Successor.{Successor}
use Rattle.run_places.specs.Spots.{spot_of, spots_of}
use Rattle.run_places.proofs.Followed.{leads_on}
use Rattle.run_places.proofs.Standing.{covered_stays}
use Rattle.run_places.proofs.reaching.places_behind.Goals as goal

pub loop-successor-preserved : goal.loop-successor-preserved
loop-successor-preserved c =
    let i = c.loop-successor.invariant in
    let before = c.loop-successor.behind.items in
    let after = c.add_behind.new.behind.items in
    let kept = c.in_ok-add_behind.ensures in
    let h = c.args.against.now.hart in
    let m = listed c.args.against.now.list.now in
    let p = spot_of c.args.place.now in
    let a = state_of c.args.place.now.state in
    record {
      moves = λ owns v s there f constant. elim (Contains-push_cases c.loop-successor.yielded c.in-Some.successor s there) [
        | inl old ↦ leads_on owns h m (spots_of before) (spots_of after) p v (λ q at. covered_stays m before after q kept.grows at) (i.moves owns v s old f constant)
        | inr now ↦ kept.moves owns v (subst (λ (u : Successor). FollowsApart owns h m a v u) (sym now) f) constant
      ];
      later = λ owns v s t there f constant chosen done. elim (Contains-push_cases c.loop-successor.yielded c.in-Some.successor s there) [
        | inl old ↦ leads_on owns h m (spots_of before) (spots_of after) (spot_with p (stored_of t)) v (λ q at. covered_stays m before after q kept.grows at)
            (i.later owns v s t old f constant chosen done)
        | inr now ↦ kept.later owns v t (subst (λ (u : Successor). FollowsApart owns h m a v u) (sym now) f) constant chosen (ap (λ (u : Successor). u.done) now ∙ done)
      ];
    }

pub returns-clause-moves : goal.returns-clause-moves
returns-clause-moves c = λ owns v s there f constant.
    let gives : into_iter_items c.into_iter-successor-iterator.result ≡ c.args.successors.items = search rules in
    let many : into_iter_len c.into_iter-successor-iterator.result ≡ length c.args.successors.items = search rules in
    let all = YieldsList-end (YieldsList-from_vec c.args.successors.items gives many) c.loop-successor.yielded c.loop-successor.successor-iterator c.loop-successor.yielded_by c.next.result c.next.new.self c.in-None.is c.next.ensures.steps in
    let every : c.loop-successor.yielded ≡ c.args.successors.items = sym (map-id c.loop-successor.yielded) ∙ all.0 in
    c.loop-successor.invariant.moves owns v s (subst (λ (ss : List Successor). Contains ss s) (sym every) there) f constant

pub returns-clause-later : goal.returns-clause-later
returns-clause-later c = λ owns v s t there f constant chosen done.
    let gives : into_iter_items c.into_iter-successor-iterator.result ≡ c.args.successors.items = search rules in
    let many : into_iter_len c.into_iter-successor-iterator.result ≡ length c.args.successors.items = search rules in
    let all = YieldsList-end (YieldsList-from_vec c.args.successors.items gives many) c.loop-successor.yielded c.loop-successor.successor-iterator c.loop-successor.yielded_by c.next.result c.next.new.self c.in-None.is c.next.ensures.steps in
    let every : c.loop-successor.yielded ≡ c.args.successors.items = sym (map-id c.loop-successor.yielded) ∙ all.0 in
    c.loop-successor.invariant.later owns v s t (subst (λ (ss : List Successor). Contains ss s) (sym every) there) f constant chosen done
