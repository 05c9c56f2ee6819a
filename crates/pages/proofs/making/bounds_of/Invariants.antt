use Rattle.std.proofs.Common.{◌≤◌, ◌<◌, ◌^◌, ℕ, get_or}
use Rattle.pages.specs.declared.access.Range.{Range}
use Rattle.pages.specs.PagesHold.{LiesWithin}
use Rattle.pages.proofs.making.bounds_of.Given as goal

abbrev pub invariant-loop-range : goal.invariant-loop-range
invariant-loop-range l = record {
  within : (k : ℕ) (d : Range) → k < l.range-index → LiesWithin l.start l.end (get_or l.code k d);
  below : l.end ≤ 2 ^ 26;
}
