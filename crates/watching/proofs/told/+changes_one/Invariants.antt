use Rattle.watching.proofs.told.+changes_one.Given as goal

abbrev pub decreases-changes_one : goal.decreases-changes_one
decreases-changes_one l = l.left
