use Rattle.std.proofs.Common.{List, [], ◌∷◌, length, refl, ap, arith, length-append}
use Rattle.std.specs.Global.{Vec}
use Rattle.run_places.specs.declared.place.Place.{Place}
use Rattle.run_places.specs.Spots.{spots_of}
use Rattle.ending_nodes.proofs.KeptNodes.{AreFirstAt, first_here, spots_more}
use Rattle.ending_nodes.proofs.node.first_places.Goals as goal

pub loop-hart-preserved : goal.loop-hart-preserved
loop-hart-preserved c =
    let i = c.loop-hart.invariant in
    let n = c.loop-hart.hart-index in
    let old = c.loop-hart.places.items in
    let begins = c.in_ok-begins.begins in
    let grown = c.in_ok-push.ensures.items in
    record {
      many = (let e = ap (λ (ps : List (Vec Place)). length ps) grown in let l = length-append old (begins ∷ []) in let o = i.many in omega (arith, e, l, o));
      first = spots_more (AreFirstAt c.args.harts.now) n old c.push.new.self.items begins i.many grown
          (first_here c.args.harts.now n _ _ (spots_of begins.items) c.loop-hart-test.true refl c.in_ok-begins.ensures) i.first;
    }

pub returns : goal.returns
returns c = λ h p l there. let over = c.loop-hart-test.false in c.loop-hart.invariant.first h (omega (arith, l, over)) p there
