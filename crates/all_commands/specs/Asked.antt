-- The search for all endings that a line asks for, and why it isn't done. `wasnt_given` says that a file couldn't be written, `failed`
-- that the output failed, and `finds` that a search by some settings finds a table, with these executions.
use Rattle.std.specs.Prelude.{◌≡◌, ◌⊎◌, ℕ, List, false, Option, is_some, option_map}
use Rattle.command_line.specs.declared.settings.AllEndings.{AllEndings}
use Rattle.endings_finder.specs.AllEndings.{AreKept, IsSearched}
use Rattle.endings_finder.specs.declared.settings.EndingsSettings.{EndingsSettings}
use Rattle.endings_table.specs.declared.table.EndingsTable.{EndingsTable}
use Rattle.execution_file.specs.declared.file.ExecutionFile.{ExecutionFile}
use Rattle.hunt_commands.specs.Asked.{RefusedSearch}
use Rattle.program_files.specs.Failures.{IsCutEnd}
use Rattle.hunt_commands.specs.Settings.{HasNumbers, HasRanges}
use Rattle.hunter.specs.Hunts.{hunt_fault}
use Rattle.program_files.specs.Asked.{IsFileOfProgram, IsProgramOf, LacksSpurious}
use Rattle.program_files.specs.Relations.{FileRelations}
use Rattle.weak_commands.specs.Asked.{IsWorldEnd}
use Rattle.weak_commands.specs.Saved.{IsUnsavedIn}
use Rattle.program_files.specs.declared.failure.CommandFailure.{CommandFailure}

-- ---- what is searched

-- the path of the folder that executions are kept in
abbrev pub keep_of : AllEndings → Option (List ℕ)
keep_of asked = option_map (λ s. s.now) asked.keep

-- the settings have what the line says: of the guest, how far the search goes, whether executions are kept, and whether fences are asked for
pub record IsAskedSearch (asked : AllEndings) (image : List ℕ) (s : EndingsSettings) : Type 0 where
  pub numbers : HasNumbers asked.search 0 1 false s.hunt
  pub ranges : HasRanges asked.search image s.hunt
  pub steps : s.steps ≡ asked.steps
  pub nodes : s.nodes ≡ asked.nodes
  pub keeps : s.keeps ≡ is_some asked.keep
  pub fences : s.fences ≡ asked.fences

-- a search by what the line says: its settings, its table and the executions that it keeps
pub record SetSearch (finds : EndingsSettings → List ℕ → List ℕ → EndingsTable → List ExecutionFile → Type 0)
    (asked : AllEndings) (image input : List ℕ) : Type 0 where
  pub settings : EndingsSettings
  pub table : EndingsTable
  pub executions : List ExecutionFile
  pub set : IsAskedSearch asked image settings
  pub searched : IsSearched settings image input table
  pub kept : AreKept settings.keeps table.endings.items executions
  pub found : finds settings image input table executions

-- the search that a line asks for
pub record AskedSearch (files : FileRelations)
    (finds : EndingsSettings → List ℕ → List ℕ → EndingsTable → List ExecutionFile → Type 0) (asked : AllEndings) : Type 0 where
  pub image : List ℕ
  pub input : List ℕ
  pub given : IsProgramOf files asked.search.program image input
  pub made : SetSearch finds asked image input

-- ---- refusals

-- why a search in what the files gave ends: memory was refused or the output failed, or the search is refused as a hunt is
abbrev pub IsSearchEnd : AllEndings → List ℕ → Type 0 → CommandFailure → Type 0
IsSearchEnd asked image failed f = IsCutEnd failed f ⊎ RefusedSearch asked.search 0 1 false hunt_fault image failed f

-- the search that a line asks for ends so
pub record EndsSearch (files : FileRelations) (asked : AllEndings) (failed : Type 0) (f : CommandFailure) : Type 0 where
  pub image : List ℕ
  pub input : List ℕ
  pub given : IsProgramOf files asked.search.program image input
  pub ends : IsSearchEnd asked image failed f

-- why the command ends without what it was asked for
abbrev pub EndsAll : FileRelations → (List ℕ → Type 0) → AllEndings → Type 0 → CommandFailure → Type 0
EndsAll files wasnt_given asked failed f =
    IsWorldEnd files (IsFileOfProgram asked.search.program) (LacksSpurious files asked.search.program) failed f
    ⊎ EndsSearch files asked failed f ⊎ IsUnsavedIn wasnt_given (keep_of asked) f
