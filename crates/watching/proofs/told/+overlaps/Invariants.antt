use Rattle.watching.proofs.told.+overlaps.Given as goal

abbrev pub decreases-overlaps : goal.decreases-overlaps
decreases-overlaps l = l.left
