use Rattle.std.proofs.Common.{arith}
use Rattle.run_places.specs.Spots.{spot_of}
use Rattle.run_places.proofs.Standing.{place_at}
use Rattle.run_places.proofs.covering.stands_at.Goals as goal

pub returns : goal.returns
returns c = λ yes.
    let other = c.index-all-index.result in
    let within = c.if-index-all.false in
    (spot_of other, place_at c.args.all.now c.args.index other (omega (arith, within)) c.index-all-index.is, c.stands_for.ensures yes)
