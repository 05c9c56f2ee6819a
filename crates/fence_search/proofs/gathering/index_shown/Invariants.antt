use Rattle.std.proofs.Common.{◌≤◌}
use Rattle.fence_search.proofs.gathering.index_shown.Given as goal

abbrev pub invariant-loop-index : goal.invariant-loop-index
invariant-loop-index l = l.best ≤ l.index
