use Rattle.hunt_table.specs.Ranges.{AreAlikeUpTo}
use Rattle.hunt_table.proofs.seen_range.are_alike_ranges.Given as goal

-- the ranges up to here are alike
abbrev pub invariant-loop-index : goal.invariant-loop-index
invariant-loop-index l = AreAlikeUpTo l.ranges l.others l.index
