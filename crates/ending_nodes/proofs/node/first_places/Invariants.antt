use Rattle.std.proofs.Common.{◌≡◌, ℕ, ◌<◌, length}
use Rattle.ending_nodes.specs.KeptNodes.{spots_at}
use Rattle.ending_nodes.proofs.KeptNodes.{AreFirstAt}
use Rattle.ending_nodes.proofs.node.first_places.Given as goal

abbrev pub invariant-loop-hart : goal.invariant-loop-hart
invariant-loop-hart l = record {
  many : length l.places.items ≡ l.hart-index;
  first : (h : ℕ) → h < l.hart-index → AreFirstAt l.harts h (spots_at l.places.items h);
}
