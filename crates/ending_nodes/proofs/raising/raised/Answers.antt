use Rattle.std.proofs.Common.{Bool, List, length, Option, IfSome, subst, arith}
use Rattle.std.proofs.lemmas.List.{length-map}
use Rattle.std.specs.Global.{Vec}
use Rattle.hart_states.specs.States.{listed, stored_of}
use Rattle.own_moves.specs.Owned.{owns_of}
use Rattle.run_places.specs.declared.place.Place.{Place}
use Rattle.ending_nodes.specs.Raising.{AreKnown, AreSettled, IsLaid}
use Rattle.ending_nodes.proofs.Raised.{raised_by}
use Rattle.ending_nodes.proofs.raising.raised.Goals as goal

pub returns : goal.returns
returns c =
    let owns = owns_of c.args.program.now.owned.now in
    let k = c.args.program.now.steps in
    let image = c.args.program.now.pages.now.memory in
    let harts = length c.args.program.now.maps.now in
    let n = c.args.node.now in
    let list = c.args.list.now in
    let m = listed list in
    let stays = c.in_ok-stays.stays.items in
    let walks = c.in-Some.walks.items in
    let places = c.in-Some-found.places.items in
    let t = c.in_ok-over.over in
    let many = c.in_ok-stays.ensures.many in
    let size = length-map list stored_of in
    let known = subst (λ (r : Option (Vec (Vec Place))). IfSome r (λ (ps : Vec (Vec Place)). AreKnown owns k image harts n m ps.items)) c.in-Some.is c.in_ok-walked.ensures in
    let settled = subst (λ (r : Option (Vec (Vec Place))). IfSome r (λ (ps : Vec (Vec Place)). AreSettled owns k image harts c.deref-4.result.now n m c.deref-3.result.now ps.items)) c.in-Some-found.is c.in_ok-found.ensures in (
      stays,
      raised_by owns k image harts c.settled_walks_come_past.ensures stays n t m walks places (omega (arith, many, size)) c.in_ok-stays.ensures.free
          (subst (λ (s : List Bool). IsLaid s m n places t) c.deref-5.ensures.value c.in_ok-over.ensures) known
          (subst (λ (s : List Bool). AreSettled owns k image harts s n m walks places) c.deref-4.ensures.value
          (subst (λ (ws : List (Vec Place)). AreSettled owns k image harts c.deref-4.result.now n m ws places) c.deref-3.ensures.value settled)),
    )
