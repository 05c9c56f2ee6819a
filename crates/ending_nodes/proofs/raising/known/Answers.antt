use Rattle.std.proofs.Common.{ℕ, List, [], ◌∷◌, length, ap, arith, length-append}
use Rattle.std.specs.Global.{Vec}
use Rattle.hart_states.specs.States.{listed}
use Rattle.private_bytes.specs.PrivateWalks.{Spot}
use Rattle.own_moves.specs.Owned.{owns_of}
use Rattle.run_places.specs.declared.place.Place.{Place}
use Rattle.settled_walks.specs.KnownWalks.{IsKnownWalk}
use Rattle.ending_nodes.specs.KeptNodes.{node_over}
use Rattle.ending_nodes.proofs.KeptNodes.{spots_more}
use Rattle.ending_nodes.proofs.Raised.{known_by}
use Rattle.ending_nodes.proofs.raising.known.Goals as goal

pub loop-hart-preserved : goal.loop-hart-preserved
loop-hart-preserved c =
    let i = c.loop-hart.invariant in
    let n = c.loop-hart.hart in
    let old = c.loop-hart.all.items in
    let places = c.in-Some.places in
    let grown = c.in_ok-push-in-Some.ensures.items in
    let program = c.args.program.now in
    let node = c.args.node.now in
    let list = c.args.list.now in
    let over = node_over program.pages.now.memory node (listed list) in
    let here = known_by c.against_of-against.result program node list n c.against_of-against.ensures c.places_of.result.now c.in_ok-found.found places c.places_of.ensures c.in-Some.is c.in_ok-found.ensures in
    record {
      many = (let e = ap (λ (ps : List (Vec Place)). length ps) grown in let l = length-append old (places ∷ []) in let o = i.many in omega (arith, e, l, o));
      known = spots_more (λ (h : ℕ) (ss : List Spot). IsKnownWalk (owns_of program.owned.now) program.steps program.pages.now.memory (length program.maps.now) h over ss) n old c.push.new.self.items
          places i.many grown here i.known;
    }

pub returns : goal.returns
returns c = λ h l. let over = c.loop-hart-test.false in c.loop-hart.invariant.known h (omega (arith, l, over))
