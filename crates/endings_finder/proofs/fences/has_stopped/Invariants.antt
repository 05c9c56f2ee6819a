use Rattle.std.proofs.Common.{◌≡◌, ℕ, ◌<◌, true, get_or, is_some}
use Rattle.ending_judge.specs.JudgedEndings.{stop_of}
use Rattle.endings_table.specs.declared.hart_end.HartEnd.{HartEnd}
use Rattle.endings_finder.proofs.fences.has_stopped.Given as goal

-- each stops so far
abbrev pub invariant-loop-end : goal.invariant-loop-end
invariant-loop-end l = (k : ℕ) (d : HartEnd) → k < l.end-index → is_some (stop_of (get_or l.ends k d)) ≡ true
