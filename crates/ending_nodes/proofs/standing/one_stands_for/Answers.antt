use Rattle.run_places.specs.Spots.{spot_of}
use Rattle.ending_nodes.proofs.Told.{told_at_index}
use Rattle.ending_nodes.proofs.standing.one_stands_for.Goals as goal

pub returns-then-stands_for : goal.returns-then-stands_for
returns-then-stands_for c = λ yes.
    let p = c.place-item.result in
    (spot_of p, told_at_index spot_of c.args.places.now c.loop-place.place-index p c.loop-place-test.true c.place-item.is, c.stands_for.ensures c.if-stands_for.true)
