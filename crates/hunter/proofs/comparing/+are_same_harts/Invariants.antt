use Rattle.std.proofs.Common.{length}
use Rattle.hunter.proofs.comparing.+are_same_harts.Given as goal

-- each call has one hart fewer
abbrev pub decreases-are_same_harts : goal.decreases-are_same_harts
decreases-are_same_harts l = length l.harts.now
