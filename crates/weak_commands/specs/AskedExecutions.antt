-- The execution of a guest program that a line asks for, and why it isn't printed. `failed` says that the output failed, and
-- `makes` that a file says the execution of a number, of so many steps at most.
use Rattle.std.specs.Prelude.{◌≡◌, ◌⊎◌, ℕ, List, Bool, true, false, Option, Some, None}
use Rattle.command_line.specs.declared.settings.Execution.{Execution}
use Rattle.command_line.specs.declared.settings.Program.{Program}
use Rattle.command_line.specs.declared.settings.Run.{Run}
use Rattle.execution_file.specs.Recorded.{Recorded}
use Rattle.execution_makers.specs.RunFiles.{IsFileOf}
use Rattle.host_io.specs.declared.error.RunError.TheVariants as refusals
use Rattle.host_io.specs.declared.load_error.LoadError.{LoadError as ImageCause}
use Rattle.hunt_commands.specs.Settings.{IsOfProgram}
use Rattle.program_files.specs.declared.failure.CommandFailure.{CommandFailure}
use Rattle.program_files.specs.declared.failure.CommandFailure.TheVariants as failures
use Rattle.hunter.specs.Hunts.{IsImageCause, shrink_fault}
use Rattle.hunter.specs.declared.error.HuntError.{HuntError}
use Rattle.hunter.specs.declared.error.HuntError.TheVariants as hunting
use Rattle.hunter.specs.declared.settings.HuntSettings.{HuntSettings}
use Rattle.machine.specs.Runs.{after_run}
use Rattle.program_files.specs.Asked.{IsFileOfRun, IsGiven, IsProgramOf, LacksSpurious, RefusedRun, SetRun}
use Rattle.program_files.specs.Failures.{IsCutEnd, IsFileFailure}
use Rattle.program_files.specs.Relations.{FileRelations}
use Rattle.weak_commands.specs.Relations.{MakeRelation}
use Rattle.weak_hunter.specs.WeakExecutions.{IsAllowedExecution, IsUnmade}
use Rattle.weak_hunter.specs.declared.error.WeakHuntError.{WeakHuntError}
use Rattle.weak_hunter.specs.declared.error.WeakHuntError.TheVariants.{Hunt}

-- the number of the execution that is asked for, by --weak and --plan-number; none is a run
abbrev pub number_of : Bool → Option ℕ → Option ℕ
number_of true number = number
number_of false number = None

-- ---- what the file says

-- the file says a run of this program by this plan
pub record IsRunOf (program : Program) (text : List ℕ) (budget : ℕ) (image input : List ℕ) (file : Recorded) : Type 0 where
  pub made : SetRun program text budget
  pub says : IsFileOf made.settings image input (after_run made.settings image input made.plan) file

-- the file says the run of a line
pub record IsRun (files : FileRelations) (run : Run) (file : Recorded) : Type 0 where
  pub image : List ℕ
  pub input : List ℕ
  pub text : List ℕ
  pub budget : ℕ
  pub given : IsGiven files run image input text budget
  pub says : IsRunOf run.program text budget image input file

-- the file says the execution of a number of the program, of so many steps at most, which RVWMO allows
pub record IsNumbered (files : FileRelations) (makes : MakeRelation) (run : Run) (steps number : ℕ) (file : Recorded) : Type 0 where
  pub image : List ℕ
  pub input : List ℕ
  pub given : IsProgramOf files run.program image input
  pub settings : HuntSettings
  pub program : IsOfProgram run.program run.plan.seed settings
  pub allowed : IsAllowedExecution settings image input file
  pub made : makes settings image input steps number file

-- the one or the other
abbrev pub IsAskedBy : Option ℕ → FileRelations → MakeRelation → Execution → Recorded → Type 0
IsAskedBy None files makes asked file = IsRun files asked.run file
IsAskedBy (Some number) files makes asked file = IsNumbered files makes asked.run asked.steps number file

abbrev pub IsAskedFile : FileRelations → MakeRelation → Execution → Recorded → Type 0
IsAskedFile files makes asked file = IsAskedBy (number_of asked.weak asked.run.plan.number) files makes asked file

-- the execution that a line asks for
pub record AskedExecution (files : FileRelations) (makes : MakeRelation) (asked : Execution) : Type 0 where
  pub file : Recorded
  pub is_asked : IsAskedFile files makes asked file

-- ---- refusals

-- the execution of a number is refused: for settings that are out of range, then for the image, for want of memory, or since the checker
-- doesn't allow it
pub record RefusedNumber (files : FileRelations) (run : Run) (number : ℕ) (f : CommandFailure) : Type 0 where
  pub image : List ℕ
  pub input : List ℕ
  pub given : IsProgramOf files run.program image input
  pub settings : HuntSettings
  pub program : IsOfProgram run.program run.plan.seed settings
  pub error : WeakHuntError
  pub is_error : f ≡ failures.Hunt error
  pub of_settings : (e : HuntError) → shrink_fault settings ≡ Some e → error ≡ Hunt e
  pub of_image : (cause : ImageCause) → shrink_fault settings ≡ None → IsImageCause settings image cause →
      (error ≡ Hunt (hunting.Run (refusals.Image cause))) ⊎ (error ≡ Hunt (hunting.Run refusals.OutOfMemory))
  pub reason : shrink_fault settings ≡ None → IsUnmade settings image number error

-- the run of a line is refused, or the execution of its number
abbrev pub IsRefused : Option ℕ → FileRelations → Run → CommandFailure → Type 0
IsRefused None files run f = RefusedRun files run ⊥ f
IsRefused (Some number) files run f = RefusedNumber files run number f

-- why the execution isn't made: a file of the line couldn't be read, memory is refused, or what is asked for is
abbrev pub IsUnmadeFile : FileRelations → Execution → CommandFailure → Type 0
IsUnmadeFile files asked f =
    IsFileFailure files (IsFileOfRun asked.run) (LacksSpurious files asked.run.program) f
    ⊎ IsRefused (number_of asked.weak asked.run.plan.number) files asked.run f

-- why the command ends without it: it isn't made, memory is refused, or the output failed
abbrev pub EndsExecution : FileRelations → Execution → Type 0 → CommandFailure → Type 0
EndsExecution files asked failed f = IsUnmadeFile files asked f ⊎ IsCutEnd failed f
