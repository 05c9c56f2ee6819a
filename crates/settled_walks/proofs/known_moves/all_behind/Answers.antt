use Rattle.std.proofs.Common.{◌≡◌, ◌∙◌, List, length, Contains, map-id, sym, subst, inl, inr, rules}
use Rattle.std.proofs.lemmas.Iterator.Adapters.{YieldsList-from_vec}
use Rattle.std.proofs.lemmas.Iterator.Consumers.{YieldsList-end}
use Rattle.std.specs.Vec.Iter.{into_iter_items, into_iter_len}
use Rattle.std.proofs.lemmas.List.Elements.{Contains-push_cases}
use Rattle.own_moves.specs.Moves.{FollowsApart}
use Rattle.hart_states.specs.States.{listed, state_of}
use Rattle.hart_states.specs.declared.following.Successor.{Successor}
use Rattle.run_places.specs.Spots.{spot_of, spots_of}
use Rattle.settled_walks.specs.Within.{IsWithin}
use Rattle.run_places.proofs.Standing.{ahead_stays}
use Rattle.settled_walks.proofs.SettledSpots.{followed_more}
use Rattle.settled_walks.proofs.known_moves.all_behind.Goals as goal

pub loop-successor-preserved : goal.loop-successor-preserved
loop-successor-preserved c = λ owns v s there follows within constant.
    let before = c.loop-successor.behind.items in
    let after = c.add_known.new.behind.items in
    let kept = c.in_ok-add_known.ensures in
    let h = c.args.against.now.hart in
    let m = listed c.args.against.now.list.now in
    let p = spot_of c.args.place.now in
    let a = state_of c.args.place.now.state in
    let n = length c.args.against.now.list.now in
    elim (Contains-push_cases c.loop-successor.yielded c.in-Some.successor s there) [
      | inl old ↦ followed_more owns h m p v (spots_of before) (spots_of after) (λ q at. ahead_stays before after q kept.grows at) (c.loop-successor.invariant owns v s old follows within constant)
      | inr now ↦ kept.followed owns v (subst (λ (u : Successor). FollowsApart owns h m a v u) (sym now) follows) (subst (λ (u : Successor). IsWithin n (state_of u.state)) (sym now) within) constant
    ]

pub returns : goal.returns
returns c = λ owns v s there follows within constant.
    let gives : into_iter_items c.into_iter-successor-iterator.result ≡ c.args.successors.items = search rules in
    let many : into_iter_len c.into_iter-successor-iterator.result ≡ length c.args.successors.items = search rules in
    let all = YieldsList-end (YieldsList-from_vec c.args.successors.items gives many) c.loop-successor.yielded c.loop-successor.successor-iterator c.loop-successor.yielded_by c.next.result c.next.new.self c.in-None.is c.next.ensures.steps in
    let every : c.loop-successor.yielded ≡ c.args.successors.items = sym (map-id c.loop-successor.yielded) ∙ all.0 in
    c.loop-successor.invariant owns v s (subst (λ (ss : List Successor). Contains ss s) (sym every) there) follows within constant
