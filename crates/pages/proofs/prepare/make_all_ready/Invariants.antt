use Rattle.std.proofs.Common.{◌≡◌, ◌≤◌, ℕ, vec_len, map, take, true, false, get_or}
use Rattle.pages.specs.Flat.{flat, is_ready}
use Rattle.pages.specs.PagesHold.{IsCounted}
use Rattle.pages.specs.Paged.{all_ready}
use Rattle.pages.proofs.prepare.make_all_ready.Given as goal

abbrev pub invariant-loop-page : goal.invariant-loop-page
invariant-loop-page l = record {
  bytes : flat l.parts ≡ flat l.initial.parts;
  ready : map is_ready l.parts ≡ all_ready (map is_ready l.initial.parts) (take l.page-index l.pages);
  stays : (p : ℕ) → get_or (map is_ready l.initial.parts) p false ≡ true → get_or (map is_ready l.parts) p false ≡ true;
  spares : vec_len l.spares ≤ vec_len l.initial.spares;
  counted : IsCounted l.unready (map is_ready l.parts);
}
