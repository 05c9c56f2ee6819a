use Rattle.std.proofs.Common.{◌≡◌, ℕ, List, [], ◌∷◌, length, get_or, sym, ap, ◌∙◌, subst, arith, length-append}
use Rattle.std.specs.Global.{Vec}
use Rattle.pages.specs.Memory.{Memory}
use Rattle.hart_states.specs.States.{listed}
use Rattle.private_bytes.specs.PrivateWalks.{Spot}
use Rattle.own_moves.specs.Owned.{owns_of}
use Rattle.own_moves.specs.declared.owned.OwnDoubleword.{OwnDoubleword}
use Rattle.early_reads.specs.Checking.{map_of}
use Rattle.early_reads.specs.EarlyMaps.{IsRight}
use Rattle.early_reads.specs.declared.early_point.EarlyPoint.{EarlyPoint}
use Rattle.run_places.specs.declared.place.Place.{Place}
use Rattle.run_places.specs.Spots.{spots_of}
use Rattle.ending_nodes.specs.KeptNodes.{node_over, spots_at}
use Rattle.ending_nodes.specs.Raising.{Settles}
use Rattle.ending_nodes.proofs.KeptNodes.{spots_here, spots_more}
use Rattle.ending_nodes.proofs.Raised.{asked_of, settled_by}
use Rattle.ending_nodes.proofs.raising.settled.Goals as goal

pub settle-requires : goal.settle-requires
settle-requires c =
    let program = c.args.program.now in
    let a = c.against_of-against.result in
    let map = c.index-program-hart.result in
    let n = c.loop-hart.hart in
    record {
      right = subst (λ (ps : List EarlyPoint). IsRight (map_of ps) (owns_of a.owned.now) a.memory.pages.now.memory a.hart) (sym c.deref.ensures.value)
          (asked_of a program c.args.node.now c.args.list.now n c.against_of-against.ensures (λ (o : List OwnDoubleword) (g : Memory) (i : ℕ). IsRight (map_of (get_or program.maps.now n map).items) (owns_of o) g i)
          (c.requires.right n map (omega arith)));
    }

pub loop-hart-preserved : goal.loop-hart-preserved
loop-hart-preserved c =
    let i = c.loop-hart.invariant in
    let n = c.loop-hart.hart in
    let old = c.loop-hart.all.items in
    let places = c.in-Some.places in
    let grown = c.in_ok-push-in-Some.ensures.items in
    let program = c.args.program.now in
    let node = c.args.node.now in
    let list = c.args.list.now in
    let walks = c.args.walks.now in
    let stays = c.args.stays.now in
    let owns = owns_of program.owned.now in
    let image = program.pages.now.memory in
    let harts = length program.maps.now in
    let over = node_over image node (listed list) in
    let walk = c.index-walks-hart.result in
    let qs = c.deref-in-loop-hart.result.now in
    let said = settled_by c.against_of-against.result program node list n c.against_of-against.ensures stays qs c.in_ok-found.found places c.in-Some.is c.in_ok-found.ensures in
    let at : spots_of qs ≡ spots_at walks n = ap spots_of c.deref-in-loop-hart.ensures.value ∙ sym (spots_here walks n walk walk (omega arith) c.index-walks-hart.is) in
    let here = subst (λ (ss : List Spot). Settles owns program.steps image harts stays n over ss (spots_of places.items)) at said in
    record {
      many = (let e = ap (λ (ps : List (Vec Place)). length ps) grown in let l = length-append old (places ∷ []) in let o = i.many in omega (arith, e, l, o));
      settled = spots_more (λ (h : ℕ) (ss : List Spot). Settles owns program.steps image harts stays h over (spots_at walks h) ss) n old c.push.new.self.items places i.many grown here i.settled;
    }

pub returns : goal.returns
returns c = λ h l. let over = c.loop-hart-test.false in c.loop-hart.invariant.settled h (omega (arith, l, over))
