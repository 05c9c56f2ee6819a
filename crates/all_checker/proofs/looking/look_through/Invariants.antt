use Rattle.std.proofs.Common.{◌≡◌, ℕ, ◌<◌, [], length, get_or}
use Rattle.hart_ends.specs.Told.{ways_told}
use Rattle.own_moves.specs.Owned.{owns_of}
use Rattle.ending_nodes.specs.KeptNodes.{node_told}
use Rattle.all_checker.specs.Nodes.{HasWalkFrom, lists_told}
use Rattle.all_checker.proofs.looking.look_through.Given as goal

abbrev pub invariant-loop-hart : goal.invariant-loop-hart
invariant-loop-hart l = record {
  offered : length l.walks.offered.items ≡ l.hart;
  ways : length l.walks.ways.items ≡ l.hart;
  walks : (h : ℕ) → h < l.hart →
      HasWalkFrom (owns_of l.program.owned.now) l.program.steps l.program.pages.now.memory (length l.program.maps.now) h (node_told l.program.pages.now.memory l.node) (get_or (lists_told l.walks.offered.items) h []) (get_or (ways_told l.walks.ways.items) h []);
}
