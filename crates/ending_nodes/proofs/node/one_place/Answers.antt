use Rattle.std.proofs.Common.{refl}
use Rattle.hart_ends.proofs.Told.{new}
use Rattle.run_places.specs.Spots.{spot_of}
use Rattle.ending_nodes.proofs.node.one_place.Goals as goal

pub returns : goal.returns
returns c =
    let p = c.first_place-place.result in
    (spot_of p, new spot_of _ c.push.new.self.items p (spot_of p) c.in_ok-push.ensures.items refl, c.first_place-place.ensures)
