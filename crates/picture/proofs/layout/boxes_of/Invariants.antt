use Rattle.std.proofs.Common.{◌≡◌, ◌+◌, ◌*◌, take}
use Rattle.std.specs.List.{All}
use Rattle.picture.specs.Layout.{boxes_of}
use Rattle.picture.proofs.Tops.{IsAbove}
use Rattle.picture.proofs.layout.boxes_of.Given as goal

abbrev pub invariant-loop-row : goal.invariant-loop-row
invariant-loop-row l = record {
  boxes : l.boxes.items ≡ boxes_of l.trace.events (take l.row-index l.rows);
  above : All (IsAbove (236 + 92 * l.row-index)) l.boxes.items;
}
