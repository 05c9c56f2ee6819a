use Rattle.std.proofs.Common.{◌≡◌, take}
use Rattle.run_places.specs.Spots.{spots_of}
use Rattle.ending_nodes.proofs.node.copied.Given as goal

abbrev pub invariant-loop-place : goal.invariant-loop-place
invariant-loop-place l = spots_of l.copy.items ≡ spots_of (take l.place-index l.places)
