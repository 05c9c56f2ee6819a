use Rattle.std.proofs.Common.{ℕ, ◌<◌, map, get_or, Contains}
use Rattle.ending_judge.specs.JudgedEndings.{ending_in}
use Rattle.hart_ends.specs.declared.ends.TableEnding.{TableEnding}
use Rattle.hart_ends.specs.Told.{ending_told}
use Rattle.endings_finder.proofs.others.have_all.Given as goal

abbrev pub invariant-loop-other : goal.invariant-loop-other
invariant-loop-other l = (k : ℕ) (d : TableEnding) → k < l.other-index → Contains (map ending_in l.endings) (ending_told (get_or l.table k d))
