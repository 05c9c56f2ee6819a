use Rattle.std.proofs.Common.{◌≡◌, ℕ, ◌<◌, length}
use Rattle.hart_states.specs.States.{listed}
use Rattle.own_moves.specs.Owned.{owns_of}
use Rattle.settled_walks.specs.KnownWalks.{IsKnownWalk}
use Rattle.ending_nodes.specs.KeptNodes.{node_over, spots_at}
use Rattle.ending_nodes.proofs.raising.known.Given as goal

abbrev pub invariant-loop-hart : goal.invariant-loop-hart
invariant-loop-hart l = record {
  many : length l.all.items ≡ l.hart;
  known : (h : ℕ) → h < l.hart → IsKnownWalk (owns_of l.program.owned.now) l.program.steps l.program.pages.now.memory (length l.program.maps.now) h
      (node_over l.program.pages.now.memory l.node (listed l.list)) (spots_at l.all.items h);
}
