use Rattle.std.proofs.Common.{◌≡◌, take}
use Rattle.hunt_table.proofs.seen_range.are_same_ranges.Given as goal

abbrev pub invariant-loop-index : goal.invariant-loop-index
invariant-loop-index l = take l.index l.ranges ≡ take l.index l.others
