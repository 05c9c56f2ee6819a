use Rattle.std.proofs.Common.{◌≡◌, ◌++◌, length}
use Rattle.trace.specs.Briefs.{in_turn}
use Rattle.trace.proofs.brief_log.BriefLog.of.Given as goal

abbrev pub invariant-loop-first : goal.invariant-loop-first
invariant-loop-first l = in_turn l.groups.items ++ l.left ≡ l.accesses

abbrev pub decreases-loop-first : goal.decreases-loop-first
decreases-loop-first l = length l.left
