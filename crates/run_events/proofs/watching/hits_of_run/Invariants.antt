use Rattle.run_events.proofs.watching.hits_of_run.Given as goal

abbrev pub ghosts-find : goal.ghosts-find
ghosts-find g a = record { ranges = a.sought.ranges.now; within = a.sought.within }
