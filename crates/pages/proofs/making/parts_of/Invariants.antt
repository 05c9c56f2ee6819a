use Rattle.std.proofs.Common.{◌≡◌, ◌*◌, map}
use Rattle.std.specs.List.{range_with_len}
use Rattle.pages.specs.Flat.{flat, is_ready}
use Rattle.pages.specs.Initial.{bytes_from, is_touched}
use Rattle.pages.proofs.making.parts_of.Given as goal

abbrev pub invariant-loop-page : goal.invariant-loop-page
invariant-loop-page l = record {
  bytes : flat l.parts.items ≡ bytes_from l.pieces 0 (4096 * l.page);
  ready : map is_ready l.parts.items ≡ map (is_touched l.pieces) (range_with_len 0 l.page);
}
