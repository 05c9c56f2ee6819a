use Rattle.std.proofs.Common.{ℕ, ◌<◌}
use Rattle.fence_kinds.specs.Kinds.{FailsStill, kind_at}
use Rattle.fence_kinds.proofs.mending.Place.weakest_fence.Given as goal

-- with each kind so far a number failed at the place, or an execution that was found
abbrev pub invariant-loop-index : goal.invariant-loop-index
invariant-loop-index g l = (j : ℕ) → j < l.index → FailsStill g.E.Executer.comes_to l.self (kind_at j)
