-- What executions by their numbers, and searches for missing fences, are said to come to.
use Rattle.std.specs.Prelude.{ℕ, List}
use Rattle.execution_file.specs.declared.file.ExecutionFile.{ExecutionFile}
use Rattle.fence_finder.specs.declared.settings.FenceSettings.{FenceSettings}
use Rattle.fence_table.specs.declared.fence_table.FenceTable.{FenceTable}
use Rattle.execution_file.specs.Recorded.{Recorded}
use Rattle.hunter.specs.declared.settings.HuntSettings.{HuntSettings}
use Rattle.fence_trials.specs.declared.departing.Departing.{Departing}
use Rattle.fence_trials.specs.declared.guest.FenceGuest.{FenceGuest}
use Rattle.plan_hunt.specs.Endings.{Ended}

-- an execution of a guest that has this number and departs so comes to this; and a search by these settings in an image and an input finds what the
-- table has, with these executions
pub record FenceRelations : Type 1 where
  pub comes_to : FenceGuest → Departing → ℕ → Ended → Type 0
  pub finds : FenceSettings → List ℕ → List ℕ → FenceTable → List ExecutionFile → Type 0

-- the file says the execution of a number, of so many steps at most, that is made by these settings of an image and an input
abbrev pub MakeRelation : Type 1
MakeRelation = HuntSettings → List ℕ → List ℕ → ℕ → ℕ → Recorded → Type 0
