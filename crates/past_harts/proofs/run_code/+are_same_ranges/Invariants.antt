use Rattle.std.proofs.Common.{length}
use Rattle.past_harts.proofs.run_code.+are_same_ranges.Given as goal

abbrev pub decreases-are_same_ranges : goal.decreases-are_same_ranges
decreases-are_same_ranges l = length l.ranges.now
