use Rattle.std.proofs.Common.{◌≡◌, ◌+◌, All, IfSome, false, length}
use Rattle.fence_search.specs.Searching.{StandsSo}
use Rattle.fence_trials.specs.Trials.{WasTried}
use Rattle.fence_search.proofs.searcher.Searcher.add_slots.Given as goal

-- what came of the numbers so far
abbrev pub invariant-loop-index : goal.invariant-loop-index
invariant-loop-index g l = record {
  done : l.trials.done ≡ l.initial.trials.done + l.index;
  count : length l.slots ≡ length l.initial.slots;
  going : l.trials.is_over ≡ false;
  tried : All (λ s. IfSome s (WasTried (g.E.Executer.comes_to l.self.guest.now) l.self.runs.now)) l.slots;
  stands : StandsSo (g.E.Executer.comes_to l.self.guest.now) (g.O.TrialObserver.answers l.self.observer.now) l.self.runs.now l.self.extent l.trials;
}
