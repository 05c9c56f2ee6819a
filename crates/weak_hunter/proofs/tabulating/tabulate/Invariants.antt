use Rattle.std.proofs.Common.{◌-◌, if◌then◌else◌}
use Rattle.weak_hunter.specs.WeakHunts.{IsSomeTally}
use Rattle.weak_hunter.proofs.tabulating.tabulate.Given as goal

-- the table of the endings that are done
abbrev pub invariant-loop-tally : goal.invariant-loop-tally
invariant-loop-tally g l = IsSomeTally l.extent l.tally.is_over l.tally.done l.tally.rows.items

abbrev pub decreases-loop-tally : goal.decreases-loop-tally
decreases-loop-tally g l = if l.tally.is_over then 0 else l.extent.most - l.tally.done
