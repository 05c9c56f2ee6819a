use Rattle.std.proofs.Common.{◌≡◌, ℕ, length, Option, IfSome, sym, subst}
use Rattle.std.proofs.lemmas.List.{length-map}
use Rattle.std.specs.Global.{Vec}
use Rattle.hart_states.specs.Opening.{opening_of}
use Rattle.hart_states.specs.States.{listed, stored_of}
use Rattle.own_moves.specs.Owned.{owns_of}
use Rattle.run_places.specs.declared.place.Place.{Place}
use Rattle.run_places.specs.Spots.{spot_of, spots_of}
use Rattle.settled_walks.specs.KnownWalks.{CoverKnown, IsTold}
use Rattle.settled_walks.proofs.walking.known_at.Goals as goal

pub returns-in-Some : goal.returns-in-Some
returns-in-Some c =
    let owns = owns_of c.args.against.now.owned.now in
    let k = c.args.against.now.steps in
    let image = c.args.against.now.memory.pages.now.memory in
    let harts = c.args.against.now.harts in
    let h = c.args.against.now.hart in
    let list = c.args.against.now.list.now in
    let m = listed list in
    let opening = opening_of c.args.against.now.memory in
    let p = spot_of c.args.place.now in
    let size : length list ≡ length m = sym (length-map list stored_of) in
    record {
      sized = c.has_all.ensures;
      told = subst (λ (n : ℕ). IsTold owns image harts h n p) size (c.is_told.ensures c.if-not-is_told.false);
      moves = subst (λ (r : Option (Vec Place)). IfSome r (λ (ps : Vec Place). CoverKnown owns k image h m opening p (spots_of ps.items))) c.in-Some.is c.in_ok-reached.ensures;
    }
