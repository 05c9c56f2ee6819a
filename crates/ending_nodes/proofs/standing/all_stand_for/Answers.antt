use Rattle.std.proofs.Common.{◌≡◌, List, take, Contains, sym, subst}
use Rattle.std.proofs.lemmas.List.{take_all}
use Rattle.private_bytes.specs.PrivateWalks.{Spot}
use Rattle.list_suffixes.specs.SettledWalks.{AreAhead}
use Rattle.run_places.specs.declared.place.Place.{Place}
use Rattle.run_places.specs.Spots.{spot_of, spots_of}
use Rattle.ending_nodes.proofs.Told.{each_more}
use Rattle.ending_nodes.proofs.standing.all_stand_for.Goals as goal

pub loop-other-preserved : goal.loop-other-preserved
loop-other-preserved c =
    let p = c.other-item.result in
    each_more spot_of (λ (q : Spot). AreAhead (spots_of c.args.places.now) q) c.args.others.now c.loop-other.other-index p p c.loop-other-test.true c.other-item.is
    (c.one_stands_for.ensures c.if-not-one_stands_for.false) c.loop-other.invariant

pub returns : goal.returns
returns c = λ yes p there.
    let all : take c.loop-other.other-index c.args.others.now ≡ c.args.others.now = take_all c.loop-other.other-index c.args.others.now c.loop-other-test.false in
    c.loop-other.invariant p (subst (λ (ps : List Place). Contains (spots_of ps) p) (sym all) there)
