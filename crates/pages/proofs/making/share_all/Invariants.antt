use Rattle.std.proofs.Common.{◌≡◌, map, take, false, replicate}
use Rattle.pages.specs.Flat.{flat, is_ready}
use Rattle.pages.proofs.making.share_all.Given as goal

abbrev pub invariant-loop-page : goal.invariant-loop-page
invariant-loop-page l = record {
  bytes : flat l.parts ≡ flat l.initial.parts;
  unready : take l.page (map is_ready l.parts) ≡ replicate l.page false;
}
