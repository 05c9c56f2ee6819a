-- What a hunt that a line asks for is given, the table that it makes, and why it is refused. `failed` says that the output failed, and
-- `weakly` that rows are the table that a weak hunt makes in executions of so many steps.
use Rattle.std.specs.Prelude.{◌≡◌, ◌⊎◌, ℕ, List, Bool, true, false, Option, Some, None}
use Rattle.command_line.specs.declared.settings.Hunt.{Hunt}
use Rattle.command_line.specs.declared.settings.Search.{Search}
use Rattle.host_io.specs.declared.error.RunError.TheVariants as refusals
use Rattle.host_io.specs.declared.load_error.LoadError.{LoadError as ImageCause}
use Rattle.program_files.specs.declared.failure.CommandFailure.{CommandFailure}
use Rattle.program_files.specs.declared.failure.CommandFailure.TheVariants as failures
use Rattle.hunt_commands.specs.Relations.{HuntRelation}
use Rattle.hunt_commands.specs.Settings.{HasEnd, HasNumbers, HasRanges, IsNamed}
use Rattle.hunt_table.specs.Programs.{fingerprint_of}
use Rattle.hunt_table.specs.Text.{table_text, with_count}
use Rattle.hunter.specs.Hunts.{IsHuntReason, IsHunted, IsImageCause, hunt_fault}
use Rattle.hunter.specs.declared.error.HuntError.{HuntError}
use Rattle.hunter.specs.declared.error.HuntError.TheVariants as hunting
use Rattle.hunter.specs.declared.settings.HuntSettings.{HuntSettings}
use Rattle.program_files.specs.declared.fault.NamingFault.{NamingFault}
use Rattle.plan_hunt.specs.declared.row.Row.{Row}
use Rattle.program_files.specs.Asked.{IsFileOfProgram, IsProgramOf, LacksSpurious}
use Rattle.program_files.specs.Failures.{IsCutEnd, IsFileFailure}
use Rattle.program_files.specs.Relations.{FileRelations}
use Rattle.weak_hunter.specs.WeakHunts.{IsWeaklyHunted}
use Rattle.weak_hunter.specs.declared.error.WeakHuntError.{WeakHuntError}
use Rattle.weak_hunter.specs.declared.error.WeakHuntError.TheVariants as hunts

-- ---- tables

-- the rows are the table of the hunt, which is over after so many numbers: of its runs or, if it is weak, of executions of so many steps
-- that RVWMO allows
abbrev pub IsTableBy : HuntRelation → ℕ → Bool → HuntSettings → List ℕ → List ℕ → ℕ → List Row → Type 0
IsTableBy weakly steps false s image input n rows = IsHunted s image input n rows
IsTableBy weakly steps true s image input n rows = IsWeaklyHunted s image input n rows × weakly s image input steps n rows

-- a hunt by what the line says: its settings, after how many numbers it is over, and its table
pub record SetHunt (weakly : HuntRelation) (asked : Hunt) (image input : List ℕ) : Type 0 where
  pub settings : HuntSettings
  pub done : ℕ
  pub rows : List Row
  pub numbers : HasNumbers asked.search asked.first asked.plans asked.weak settings
  pub ends : HasEnd asked settings
  pub program : settings.header.program ≡ Some (fingerprint_of image)
  pub ranges : HasRanges asked.search image settings
  pub table : IsTableBy weakly asked.steps asked.weak settings image input done rows

-- the text of its table
abbrev pub hunt_text : {weakly : HuntRelation} {asked : Hunt} {image input : List ℕ} → SetHunt weakly asked image input → List ℕ
hunt_text h = table_text (with_count h.settings.header h.done) h.rows

-- the hunt that a line asks for
pub record AskedHunt (files : FileRelations) (weakly : HuntRelation) (asked : Hunt) : Type 0 where
  pub image : List ℕ
  pub input : List ℕ
  pub given : IsProgramOf files asked.search.program image input
  pub made : SetHunt weakly asked image input

-- ---- refusals

-- memory is refused, the output failed, or the image is refused
abbrev pub IsGuestReason : HuntSettings → List ℕ → Type 0 → HuntError → Type 0
IsGuestReason s image failed e = (e ≡ hunting.Run refusals.OutOfMemory) ⊎ ((e ≡ hunting.Run refusals.SinkFailed) × failed)
    ⊎ ((cause : ImageCause) × IsImageCause s image cause × (e ≡ hunting.Run (refusals.Image cause)))

-- why a hunt with settings in range is refused, but for the bytes that it looks at; a weak one also where an execution isn't confirmed
abbrev pub IsReason : Bool → HuntSettings → List ℕ → Type 0 → WeakHuntError → Type 0
IsReason weak s image failed (hunts.Hunt e) = IsGuestReason s image failed e
IsReason weak s image failed (hunts.Unconfirmed number) = weak ≡ true

-- why the hunt that a line asks for is refused where its settings are in range
abbrev pub IsReasonOf : Search → Bool → HuntSettings → List ℕ → Type 0 → CommandFailure → Type 0
IsReasonOf search weak s image failed (failures.Hunt error) = IsReason weak s image failed error
IsReasonOf search weak s image failed (failures.Naming fault) = IsNamed search image (Some fault)
IsReasonOf search weak s image failed _ = ⊥

-- a search with these settings is refused: for what is out of range, then for the image, then for the bytes that it looks at, or for
-- want of memory
pub record IsRefusedSo (search : Search) (weak : Bool) (fault : Option HuntError) (s : HuntSettings) (image : List ℕ) (failed : Type 0) (f : CommandFailure) : Type 0 where
  pub of_settings : (e : HuntError) → fault ≡ Some e → f ≡ failures.Hunt (hunts.Hunt e)
  pub of_image : (cause : ImageCause) → fault ≡ None → IsImageCause s image cause →
      (f ≡ failures.Hunt (hunts.Hunt (hunting.Run (refusals.Image cause)))) ⊎ (f ≡ failures.Hunt (hunts.Hunt (hunting.Run refusals.OutOfMemory)))
  pub reason : fault ≡ None → IsReasonOf search weak s image failed f

-- the search of a line is refused
pub record RefusedSearch (search : Search) (first count : ℕ) (weak : Bool) (fault_of : HuntSettings → Option HuntError) (image : List ℕ) (failed : Type 0) (f : CommandFailure) : Type 0 where
  pub settings : HuntSettings
  pub numbers : HasNumbers search first count weak settings
  pub refused : IsRefusedSo search weak (fault_of settings) settings image failed f

-- why a search is refused whose bytes can't be looked at: the image is refused before
abbrev pub IsFaultReason : NamingFault → HuntSettings → List ℕ → CommandFailure → Type 0
IsFaultReason fault s image f = (f ≡ failures.Naming fault) ⊎ ((e : HuntError) × IsGuestReason s image ⊥ e × (f ≡ failures.Hunt (hunts.Hunt e)))

-- the same as the hunter tells it, which knows ranges alone
abbrev pub IsHuntRefusal : Bool → HuntSettings → List ℕ → Type 0 → WeakHuntError → Type 0
IsHuntRefusal weak s image failed (hunts.Hunt e) = IsHuntReason s image e ⊎ ((e ≡ hunting.Run refusals.SinkFailed) × failed)
IsHuntRefusal weak s image failed (hunts.Unconfirmed number) = weak ≡ true

-- why a hunt ends without its table, where its files were read
abbrev pub IsHuntEnd : Hunt → List ℕ → Type 0 → CommandFailure → Type 0
IsHuntEnd asked image failed f = IsCutEnd failed f ⊎ RefusedSearch asked.search asked.first asked.plans asked.weak hunt_fault image failed f

-- the hunt that a line asks for is refused
pub record RefusedHunt (files : FileRelations) (asked : Hunt) (failed : Type 0) (f : CommandFailure) : Type 0 where
  pub image : List ℕ
  pub input : List ℕ
  pub given : IsProgramOf files asked.search.program image input
  pub refused : RefusedSearch asked.search asked.first asked.plans asked.weak hunt_fault image failed f

-- why the command ends without its table
abbrev pub EndsHunt : FileRelations → Hunt → Type 0 → CommandFailure → Type 0
EndsHunt files asked failed f =
    IsFileFailure files (IsFileOfProgram asked.search.program) (LacksSpurious files asked.search.program) f ⊎ IsCutEnd failed f
    ⊎ RefusedHunt files asked failed f
