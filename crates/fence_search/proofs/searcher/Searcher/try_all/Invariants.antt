use Rattle.std.proofs.Common.{◌-◌, if◌then◌else◌}
use Rattle.fence_search.specs.Searching.{StandsSo}
use Rattle.fence_search.proofs.searcher.Searcher.try_all.Given as goal

-- what came of the numbers that are done
abbrev pub invariant-loop-trials : goal.invariant-loop-trials
invariant-loop-trials g l = StandsSo (g.E.Executer.comes_to l.self.guest.now) (g.O.TrialObserver.answers l.self.observer.now) l.self.runs.now l.self.extent l.trials

abbrev pub decreases-loop-trials : goal.decreases-loop-trials
decreases-loop-trials g l = if l.trials.is_over then 0 else l.self.extent.most - l.trials.done
