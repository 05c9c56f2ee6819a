use Rattle.std.proofs.Common.{◌≡◌, true, false, sym, ◌∙◌, inl, inr}
use Rattle.hart_states.specs.States.{listed}
use Rattle.private_bytes.specs.PrivateWalks.{spot_after}
use Rattle.run_places.specs.Spots.{spot_of}
use Rattle.run_places.proofs.Losing.{lost_by}
use Rattle.run_places.proofs.Standing.{came, grows_by}
use Rattle.settled_walks.proofs.known_moves.add_known.Goals as goal

not_both : true ≡ false → ⊥
not_both e = cc

pub returns-then-not-is_within-clause-followed : goal.returns-then-not-is_within-clause-followed
returns-then-not-is_within-clause-followed c = λ owns v follows within constant.
    absurd (not_both (sym (c.is_within.ensures.1 within) ∙ c.if-not-is_within.true))

pub returns-then-cant_pay-clause-followed : goal.returns-then-cant_pay-clause-followed
returns-then-cant_pay-clause-followed c = λ owns v follows within constant.
    let h = c.args.against.now.hart in
    let m = listed c.args.against.now.list.now in
    let p = spot_of c.args.place.now in
    inr (lost_by h m (spot_of c.in_ok-reached.reached) (spot_after owns h m p v) (c.in_ok-reached.ensures owns h m v follows constant m) (c.cant_pay.ensures c.if-cant_pay.true))

pub returns-clause-grows : goal.returns-clause-grows
returns-clause-grows c = grows_by c.args.behind.now.items c.push.new.self.items c.in_ok-reached.reached c.in_ok-push.ensures.items

pub returns-clause-followed : goal.returns-clause-followed
returns-clause-followed c = λ owns v follows within constant.
    let h = c.args.against.now.hart in
    let m = listed c.args.against.now.list.now in
    let reached = c.in_ok-reached.reached in
    inl (spot_of reached, came c.args.behind.now.items c.push.new.self.items reached c.in_ok-push.ensures.items, c.in_ok-reached.ensures owns h m v follows constant)
