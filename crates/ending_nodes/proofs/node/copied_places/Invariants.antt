use Rattle.std.proofs.Common.{◌≡◌, take}
use Rattle.ending_nodes.specs.KeptNodes.{spots_told}
use Rattle.ending_nodes.proofs.node.copied_places.Given as goal

abbrev pub invariant-loop-one : goal.invariant-loop-one
invariant-loop-one l = spots_told l.all.items ≡ spots_told (take l.one-index l.places)
