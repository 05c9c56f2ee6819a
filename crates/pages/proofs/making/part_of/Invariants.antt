use Rattle.std.proofs.Common.{◌≡◌, ◌+◌, ◌*◌, ◌<◌, ◌≤◌, ℕ, drop, get_or, length}
use Rattle.pages.specs.Flat.{full, is_ready}
use Rattle.pages.specs.Initial.{is_touched, piece_byte}
use Rattle.pages.proofs.making.part_of.Given as goal

abbrev pub invariant-loop-left : goal.invariant-loop-left
invariant-loop-left l = record {
  within : l.left ≤ length l.pieces;
  bytes : (k : ℕ) → k < 4096 → get_or (full l.part) k 0 ≡ piece_byte (drop l.left l.pieces) (4096 * l.page + k);
  ready : is_ready l.part ≡ is_touched (drop l.left l.pieces) l.page;
}

abbrev pub decreases-loop-left : goal.decreases-loop-left
decreases-loop-left l = l.left
