use Rattle.std.proofs.Common.{◌≡◌, ◌+◌, ◌<◌, ◌^◌, All, take}
use Rattle.pages.specs.declared.access.Range.{Range}
use Rattle.ending_judge.specs.JudgedEndings.{ranges_of}
use Rattle.endings_finder.proofs.guest.searched_ranges.Given as goal

abbrev pub invariant-loop-range : goal.invariant-loop-range
invariant-loop-range l = record {
  ranges : l.searched.items ≡ ranges_of (take l.range-index l.ranges);
  fits : All (λ (r : Range). r.start + r.len < 2 ^ 64) l.searched.items;
}
