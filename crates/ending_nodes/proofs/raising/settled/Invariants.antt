use Rattle.std.proofs.Common.{◌≡◌, ℕ, ◌<◌, length}
use Rattle.hart_states.specs.States.{listed}
use Rattle.own_moves.specs.Owned.{owns_of}
use Rattle.ending_nodes.specs.KeptNodes.{node_over, spots_at}
use Rattle.ending_nodes.specs.Raising.{Settles}
use Rattle.ending_nodes.proofs.raising.settled.Given as goal

abbrev pub invariant-loop-hart : goal.invariant-loop-hart
invariant-loop-hart l = record {
  many : length l.all.items ≡ l.hart;
  settled : (h : ℕ) → h < l.hart → Settles (owns_of l.program.owned.now) l.program.steps l.program.pages.now.memory (length l.program.maps.now) l.stays h
      (node_over l.program.pages.now.memory l.node (listed l.list)) (spots_at l.walks h) (spots_at l.all.items h);
}
