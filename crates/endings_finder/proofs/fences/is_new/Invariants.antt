use Rattle.std.proofs.Common.{◌≡◌, ℕ, ◌<◌, get_or}
use Rattle.ending_judge.specs.JudgedEndings.{ending_in}
use Rattle.endings_table.specs.declared.found_ending.FoundEnding.{FoundEnding}
use Rattle.endings_finder.proofs.fences.is_new.Given as goal

-- it is another than each so far
abbrev pub invariant-loop-other : goal.invariant-loop-other
invariant-loop-other l = (k : ℕ) (d : FoundEnding) → k < l.other-index → ending_in l.ending ≡ ending_in (get_or l.others k d) → ⊥
