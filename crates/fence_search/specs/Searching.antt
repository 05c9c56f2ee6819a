-- A search for missing fences. `comes_to departing i e` says that the execution of number i that departs so comes to e, and `answers t over`
-- whether a search that ends with a find is over with a number of which t came.
use Rattle.std.specs.Prelude.{◌≡◌, ℕ, ◌+◌, ◌≤◌, Bool, false, length}
use Rattle.plan_hunt.specs.Endings.{Ended}
use Rattle.plan_hunt.specs.declared.extent.Extent.{Extent}
use Rattle.fence_trials.specs.Well.{AreOrdinaryRuns}
use Rattle.fence_trials.specs.declared.departing.Departing.{Departing}
use Rattle.fence_trials.specs.declared.ordinary.Ordinary.{Ordinary}
use Rattle.fence_trials.specs.declared.trying.Trial.{Trial}
use Rattle.fence_search.specs.Counting.{AreSearched, Stands, count_all, tried_by}
use Rattle.fence_search.specs.Gathered.{plans_of}
use Rattle.fence_search.specs.declared.searching.Search.{Search}
use Rattle.fence_search.specs.declared.trials.Trials.{Trials}

-- what came of the numbers so far
pub record StandsSo (comes_to : Departing → ℕ → Ended → Type 0) (answers : Trial → Bool → Type 0) (o : Ordinary) (x : Extent) (t : Trials) : Type 0 where
  pub few : t.done ≤ x.most
  pub all : count_all t.counted ≡ t.done
  pub found : length t.founds.items ≡ t.counted.failing
  pub stands : Stands t.is_over (tried_by comes_to o) answers x t.done t.counted

-- what came of all, once the search is over
pub record AreSearchedBy (comes_to : Departing → ℕ → Ended → Type 0) (answers : Trial → Bool → Type 0) (o : Ordinary) (x : Extent) (t : Trials) : Type 0 where
  pub so_far : StandsSo comes_to answers o x t
  pub whole : t.is_over ≡ false → t.done ≡ x.most

-- what a search tells: ordinary runs were made; each number was executed, and is counted by what came of it; and those that fail for want of
-- the fences at some gap, or of none, are those that fail by what moved
pub record IsSearchBy (comes_to : Departing → ℕ → Ended → Type 0) (answers : Trial → Bool → Type 0) (x : Extent) (s : Search) : Type 0 where
  pub runs : AreOrdinaryRuns comes_to 12 s.runs
  pub numbers : AreSearched (tried_by comes_to s.runs) answers x s.done s.counted
  pub all : count_all s.counted ≡ s.done
  pub none_lost : plans_of s.weaknesses.items + s.unnamed.plans ≡ s.counted.unnamed.plans + s.counted.failing
