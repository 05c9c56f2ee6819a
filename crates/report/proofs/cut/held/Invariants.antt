use Rattle.std.proofs.Common.{◌≤◌}
use Rattle.report.proofs.cut.held.Given as goal

abbrev pub invariant-loop-page : goal.invariant-loop-page
invariant-loop-page l = l.held ≤ l.page
