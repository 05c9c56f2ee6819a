use Rattle.fence_trials.specs.Well.{AreOrdinaryRuns}
use Rattle.fence_trials.proofs.ordinary.ordinary_runs.Given as goal

abbrev pub invariant-loop-number : goal.invariant-loop-number
invariant-loop-number g l = AreOrdinaryRuns (g.E.Executer.comes_to l.guest) l.number l.ordinary
