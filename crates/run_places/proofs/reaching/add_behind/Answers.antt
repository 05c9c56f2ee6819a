use Rattle.std.proofs.Common.{◌∙◌, inl, inr}
use Rattle.hart_states.specs.States.{listed, stored_of}
use Rattle.private_bytes.specs.PrivateWalks.{spot_after, spot_with}
use Rattle.run_places.specs.Spots.{spot_of}
use Rattle.run_places.proofs.Losing.{lost_by, lost_with, stands_with}
use Rattle.run_places.proofs.Standing.{came, grows_by, grows_on, stands_on, stays}
use Rattle.run_places.proofs.reaching.add_behind.Goals as goal

pub returns-then-is_lost-clause-moves : goal.returns-then-is_lost-clause-moves
returns-then-is_lost-clause-moves c = λ owns v f constant.
    let h = c.args.against.now.hart in
    let m = listed c.args.against.now.list.now in
    let p = spot_of c.args.place.now in
    inr (lost_by h m (spot_of c.in_ok-reached.reached) (spot_after owns h m p v) (c.in_ok-reached.ensures owns h m v f constant m) (c.is_lost.ensures c.if-is_lost.true))

pub returns-then-is_lost-clause-later : goal.returns-then-is_lost-clause-later
returns-then-is_lost-clause-later c = λ owns v t f constant chosen done.
    let h = c.args.against.now.hart in
    let m = listed c.args.against.now.list.now in
    let p = spot_of c.args.place.now in
    inr (lost_with owns h m v p (stored_of t)
    (lost_by h m (spot_of c.in_ok-reached.reached) (spot_after owns h m p v) (c.in_ok-reached.ensures owns h m v f constant m) (c.is_lost.ensures c.if-is_lost.true)))

pub returns-clause-grows : goal.returns-clause-grows
returns-clause-grows c =
    let old = c.args.behind.now.items in
    let mid = c.add_chosen.new.behind.items in
    let after = c.push.new.self.items in
    let reached = c.in_ok-reached.reached in
    grows_on old mid after c.in_ok-add_chosen.ensures.grows (grows_by mid after reached c.in_ok-push.ensures.items)

pub returns-clause-moves : goal.returns-clause-moves
returns-clause-moves c = λ owns v f constant.
    let h = c.args.against.now.hart in
    let m = listed c.args.against.now.list.now in
    let reached = c.in_ok-reached.reached in
    inl (spot_of reached, came c.add_chosen.new.behind.items c.push.new.self.items reached c.in_ok-push.ensures.items, c.in_ok-reached.ensures owns h m v f constant m)

pub returns-clause-later : goal.returns-clause-later
returns-clause-later c = λ owns v t f constant chosen done.
    let h = c.args.against.now.hart in
    let m = listed c.args.against.now.list.now in
    let p = spot_of c.args.place.now in
    let mid = c.add_chosen.new.behind.items in
    let after = c.push.new.self.items in
    let reached = c.in_ok-reached.reached in
    let k = c.in_ok-add_chosen.ensures.covered m t (c.only_if.ensures (c.is_later-later.ensures done) ∙ chosen) in
    let with = stands_with owns h m v p (stored_of t) (spot_of reached) (c.in_ok-reached.ensures owns h m v f constant m) in
    inl (
      k.0,
      stays mid after k.0 (grows_by mid after reached c.in_ok-push.ensures.items) k.1,
      stands_on m k.0 (spot_with (spot_of reached) (stored_of t)) (spot_after owns h m (spot_with p (stored_of t)) v) k.2 with,
    )
