use Rattle.std.proofs.Common.{◌≡◌, length}
use Rattle.own_moves.specs.Owned.{owns_of}
use Rattle.ending_nodes.specs.Raising.{AreRight}
use Rattle.all_checker.proofs.mapping.right_maps.Given as goal

abbrev pub invariant-loop-hart : goal.invariant-loop-hart
invariant-loop-hart l = record {
  many : length l.maps.items ≡ l.hart;
  right : AreRight (owns_of l.owned) l.pages.memory l.maps.items;
}
