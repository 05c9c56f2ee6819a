-- The search for missing fences that a line asks for, and why it isn't done. `wasnt_given` says that a file couldn't be written, and `failed`
-- that the output failed.
use Rattle.std.specs.Prelude.{◌≡◌, ◌⊎◌, ℕ, if◌then◌else◌, List, map, false, true, Option, Some, None, is_some, option_map}
use Rattle.command_line.specs.declared.settings.Fences.{Fences}
use Rattle.execution_file.specs.declared.file.ExecutionFile.{ExecutionFile}
use Rattle.weak_commands.specs.Saved.{IsUnsavedIn}
use Rattle.weak_commands.specs.Relations.{FenceRelations}
use Rattle.weak_commands.specs.Places.{IsAssumed, IsUnplaced}
use Rattle.program_files.specs.declared.failure.CommandFailure.{CommandFailure}
use Rattle.program_files.specs.declared.failure.CommandFailure.TheVariants.{Accept}
use Rattle.fence_finder.specs.MissingFences.{IsSearched, IsSearchedBy}
use Rattle.fence_finder.specs.declared.settings.FenceSettings.{FenceSettings}
use Rattle.fence_table.specs.Accepting.{accepted_in}
use Rattle.fence_table.specs.declared.accept_error.AcceptError.TheVariants as accepting
use Rattle.fence_table.specs.declared.fence_table.FenceTable.{FenceTable}
use Rattle.hunt_commands.specs.Asked.{IsRefusedSo}
use Rattle.hunt_commands.specs.Settings.{HasNumbers, HasRanges}
use Rattle.hunter.specs.Hunts.{hunt_fault}
use Rattle.hunter.specs.declared.settings.HuntSettings.{HuntSettings}
use Rattle.plan_hunt.specs.declared.extent.Until.TheVariants.{Bad, Done}
use Rattle.program_files.specs.Asked.{IsFileOfProgram, IsInputOf, IsProgramOf, LacksSpurious}
use Rattle.program_files.specs.Failures.{IsCutEnd, IsFileFailure}
use Rattle.program_files.specs.Relations.{FileRelations}

-- ---- what is searched

-- the words of the fences that are assumed
abbrev pub words_of : Fences → List (List ℕ)
words_of asked = map (λ s. s.now) asked.as_if_fence.items

-- the path of the list of places that are accepted, and of the folder that executions are kept in
abbrev pub accept_of : Fences → Option (List ℕ)
accept_of asked = option_map (λ s. s.now) asked.accept

abbrev pub keep_of : Fences → Option (List ℕ)
keep_of asked = option_map (λ s. s.now) asked.keep

-- the search is over where the line says: with the first number for which a fence is missing, or where the seconds that it gives are
pub record HasSearchEnd (asked : Fences) (s : HuntSettings) : Type 0 where
  pub until : s.until ≡ (if asked.until_missing then Bad else Done)
  pub is_timed : s.is_timed ≡ is_some asked.seconds

-- the settings have what the line says: of the executions, how many steps each has at most, the fences that are assumed, the places that the list accepts, and whether executions are kept
pub record IsAskedSearch (asked : Fences) (accepted image : List ℕ) (s : FenceSettings) : Type 0 where
  pub numbers : HasNumbers asked.search asked.first asked.plans false s.hunt
  pub ranges : HasRanges asked.search image s.hunt
  pub ends : HasSearchEnd asked s.hunt
  pub steps : s.steps ≡ asked.steps
  pub assumed : IsAssumed (words_of asked) s.hunt image s.assumed.items
  pub is_accepted : accepted_in accepted ≡ Some s.accepted
  pub keeps : s.keeps ≡ is_some asked.keep

-- a search by what the line says, with this list of places: its settings, its table and the executions that it keeps
pub record SetSearch (fences : FenceRelations) (asked : Fences) (accepted image input : List ℕ) : Type 0 where
  pub settings : FenceSettings
  pub table : FenceTable
  pub executions : List ExecutionFile
  pub set : IsAskedSearch asked accepted image settings
  pub searched : IsSearched settings.hunt image input table
  pub told : IsSearchedBy fences.comes_to settings image input table
  pub found : fences.finds settings image input table executions

-- the search that a line asks for
pub record AskedSearch (files : FileRelations) (fences : FenceRelations) (asked : Fences) : Type 0 where
  pub image : List ℕ
  pub input : List ℕ
  pub accepted : List ℕ
  pub given : IsProgramOf files asked.search.program image input
  pub list : IsInputOf files (accept_of asked) accepted
  pub made : SetSearch fences asked accepted image input

-- ---- refusals

-- the search is refused as a hunt is, or since an execution isn't confirmed
pub record IsRefusedSearch (asked : Fences) (image : List ℕ) (failed : Type 0) (f : CommandFailure) : Type 0 where
  pub settings : HuntSettings
  pub numbers : HasNumbers asked.search asked.first asked.plans false settings
  pub refused : IsRefusedSo asked.search true (hunt_fault settings) settings image failed f

-- the list of places that are accepted is none, or memory was refused
abbrev pub IsUnlisted : List ℕ → CommandFailure → Type 0
IsUnlisted accepted (Accept error) = (error ≡ accepting.OutOfMemory) ⊎ (accepted_in accepted ≡ None)
IsUnlisted accepted _ = ⊥

-- a word names no instruction of the image, or memory was refused
pub record IsUnplacedSearch (asked : Fences) (image : List ℕ) (f : CommandFailure) : Type 0 where
  pub settings : HuntSettings
  pub numbers : HasNumbers asked.search asked.first asked.plans false settings
  pub unplaced : IsUnplaced (words_of asked) settings image f

-- why a search in what the files gave ends: memory was refused or the output failed, the search is refused, the list of places is none, or a
-- word names no instruction
abbrev pub IsSearchEnd : Fences → List ℕ → List ℕ → Type 0 → CommandFailure → Type 0
IsSearchEnd asked accepted image failed f = IsCutEnd failed f ⊎ IsRefusedSearch asked image failed f ⊎ IsUnlisted accepted f ⊎ IsUnplacedSearch asked image f

-- the search that a line asks for ends so
pub record EndsSearch (files : FileRelations) (asked : Fences) (failed : Type 0) (f : CommandFailure) : Type 0 where
  pub image : List ℕ
  pub input : List ℕ
  pub accepted : List ℕ
  pub given : IsProgramOf files asked.search.program image input
  pub list : IsInputOf files (accept_of asked) accepted
  pub ends : IsSearchEnd asked accepted image failed f

-- a file that is named couldn't be read, memory is refused, or the output failed
abbrev pub IsWorldEnd : FileRelations → (List ℕ → Type 0) → Type 0 → Type 0 → CommandFailure → Type 0
IsWorldEnd files is_named is_without failed f = IsFileFailure files is_named is_without f ⊎ IsCutEnd failed f

-- the files that the line names: the program's, and the list
abbrev pub IsFileOf : Fences → List ℕ → Type 0
IsFileOf asked path = IsFileOfProgram asked.search.program path ⊎ (accept_of asked ≡ Some path)

-- why the command ends without what it was asked for
abbrev pub EndsFences : FileRelations → (List ℕ → Type 0) → Fences → Type 0 → CommandFailure → Type 0
EndsFences files wasnt_given asked failed f =
    IsWorldEnd files (IsFileOf asked) (LacksSpurious files asked.search.program) failed f ⊎ EndsSearch files asked failed f
    ⊎ IsUnsavedIn wasnt_given (keep_of asked) f
