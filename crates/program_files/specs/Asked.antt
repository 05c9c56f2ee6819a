-- What a run is given by a command line: the bytes of its files, its plan and its settings. `failed` says that the output failed.
use Rattle.std.specs.Prelude.{◌≡◌, ◌⊎◌, ◌≤◌, ◌++◌, ◌∷◌, [], ℕ, List, Bool, true, false, if◌then◌else◌, Option, Some, None, option_map, Err}
use Rattle.command_line.specs.declared.settings.PlanChoice.{PlanChoice}
use Rattle.command_line.specs.declared.settings.Program.{Program}
use Rattle.command_line.specs.declared.settings.Run.{Run}
use Rattle.host_io.specs.declared.error.RunError.{RunError}
use Rattle.host_io.specs.declared.error.RunError.TheVariants as refusals
use Rattle.round_planner.specs.Settings.{IsPlan, IsReason, RefusedInOrder, settings_fault}
use Rattle.round_planner.specs.declared.settings.Format.TheVariants.{Elf, Flat}
use Rattle.round_planner.specs.declared.settings.Settings.{Settings}
use Rattle.round_planner.specs.Families.{family_plan}
use Rattle.program_files.specs.Failures.{IsFileFailure, IsOutput, Tells}
use Rattle.program_files.specs.Relations.{FileRelations}
use Rattle.program_files.specs.Spurious.{AllowsSpurious, spurious_place}
use Rattle.program_files.specs.declared.failure.CommandFailure.{CommandFailure}
use Rattle.round_planner.specs.PlanText.{ReadsAs}
use Rattle.round_planner.specs.Quotas.{Planned}

-- of a flat image one byte more is read than guest memory can have: a longer one is refused by this beginning of it, as the whole would be
abbrev pub most_of_flat : ℕ
most_of_flat = 67108865

-- the bytes of the image's file: it is a flat file or not
abbrev pub IsImageFile : FileRelations → Bool → List ℕ → List ℕ → Type 0
IsImageFile files true path file = files.begins path most_of_flat file
IsImageFile files false path file = files.holds path file

-- the image that is run: that of the file, but where waits may return without a signal for the byte that allows it
abbrev pub IsRunAs : Bool → List ℕ → List ℕ → Type 0
IsRunAs true file image = AllowsSpurious file image
IsRunAs false file image = image ≡ file

-- the bytes of the image
pub record IsImageOf (files : FileRelations) (program : Program) (image : List ℕ) : Type 0 where
  pub file : List ℕ
  pub is_file : IsImageFile files program.flat program.image.now file
  pub is_image : IsRunAs program.spurious file image

-- waits are to return without a signal, and the image's file has nothing that would allow it
pub record LacksSpurious (files : FileRelations) (program : Program) : Type 0 where
  pub asked : program.spurious ≡ true
  pub file : List ℕ
  pub is_file : IsImageFile files program.flat program.image.now file
  pub no_place : spurious_place file ≡ None

-- the input is what the file of the path holds, and empty without one
abbrev pub IsInputOf : FileRelations → Option (List ℕ) → List ℕ → Type 0
IsInputOf files None input = input ≡ []
IsInputOf files (Some path) input = files.holds path input

-- the guest program of the line, and its input
pub record IsProgramOf (files : FileRelations) (program : Program) (image input : List ℕ) : Type 0 where
  pub is_image : IsImageOf files program image
  pub is_input : IsInputOf files (option_map (λ path. path.now) program.input) input

-- the paths that the line names: those of the program, of the plan, and of both
abbrev pub IsFileOfProgram : Program → List ℕ → Type 0
IsFileOfProgram program path = (path ≡ program.image.now) ⊎ (option_map (λ file. file.now) program.input ≡ Some path)

abbrev pub IsFileOfPlan : PlanChoice → List ℕ → Type 0
IsFileOfPlan choice path = option_map (λ file. file.now) choice.file ≡ Some path

abbrev pub IsFileOfRun : Run → List ℕ → Type 0
IsFileOfRun run path = IsFileOfProgram run.program path ⊎ IsFileOfPlan run.plan path

-- a plan of the family of a seed, for so many harts
pub record IsFamilyPlan (seed harts number : ℕ) (text : List ℕ) (budget : ℕ) : Type 0 where
  pub is_text : ReadsAs text (family_plan (record { seed = seed; harts = harts }) number).rows
  pub is_budget : budget ≡ (family_plan (record { seed = seed; harts = harts }) number).budget

-- the text and the budget of the plan that the line chooses: one of the family, that of a file, or one row. Where there is no such
-- number of harts, the run is refused for it, whatever its plan
pub record IsPlanChosen (files : FileRelations) (choice : PlanChoice) (harts : ℕ) (text : List ℕ) (budget : ℕ) : Type 0 where
  pub numbered : (number : ℕ) → choice.number ≡ Some number → 1 ≤ harts → harts ≤ 64 → IsFamilyPlan choice.seed harts number text budget
  pub filed : (path : List ℕ) → choice.number ≡ None → option_map (λ file. file.now) choice.file ≡ Some path → files.holds path text
  pub row : choice.number ≡ None → choice.file ≡ None → text ≡ choice.quota.now ++ 10 ∷ []
  pub is_budget : choice.number ≡ None → budget ≡ choice.budget

-- the settings of a run of the program by a plan
pub record HasSettings (program : Program) (text : List ℕ) (budget : ℕ) (s : Settings) : Type 0 where
  pub format : s.format ≡ (if program.flat then Flat else Elf)
  pub harts : s.harts ≡ program.harts
  pub pages : s.pages ≡ program.pages
  pub rounds : s.rounds ≡ program.rounds
  pub workers : s.workers ≡ program.workers
  pub is_budget : s.budget ≡ budget
  pub plan : s.plan.now ≡ text

-- what the run of a line is given by its files
pub record IsGiven (files : FileRelations) (run : Run) (image input text : List ℕ) (budget : ℕ) : Type 0 where
  pub program : IsProgramOf files run.program image input
  pub plan : IsPlanChosen files run.plan run.program.harts text budget

-- a run of a program by a plan: its settings, and what the text of its plan says
pub record SetRun (program : Program) (text : List ℕ) (budget : ℕ) : Type 0 where
  pub settings : Settings
  pub plan : Planned
  pub set : HasSettings program text budget settings
  pub planned : IsPlan settings plan

-- the run that a line asks for
pub record AskedRun (files : FileRelations) (run : Run) : Type 0 where
  pub image : List ℕ
  pub input : List ℕ
  pub text : List ℕ
  pub budget : ℕ
  pub given : IsGiven files run image input text budget
  pub made : SetRun run.program text budget

-- a run of a program by a plan, and that it is refused, or the output can't be written
pub record RefusedSetRun (program : Program) (text : List ℕ) (budget : ℕ) (image : List ℕ) (failed : Type 0) (f : CommandFailure) : Type 0 where
  pub settings : Settings
  pub error : RunError
  pub set : HasSettings program text budget settings
  pub tells : Tells error f
  pub in_order : RefusedInOrder {X = Unit {0}} settings image (Err error)
  pub reason : settings_fault settings ≡ None → IsReason settings image error ⊎ ((error ≡ refusals.SinkFailed) × failed)

-- the run that a line asks for is refused: for settings that are out of range, then for the image, then for the plan, or for want of memory
pub record RefusedRun (files : FileRelations) (run : Run) (failed : Type 0) (f : CommandFailure) : Type 0 where
  pub image : List ℕ
  pub input : List ℕ
  pub text : List ℕ
  pub budget : ℕ
  pub given : IsGiven files run image input text budget
  pub refused : RefusedSetRun run.program text budget image failed f

-- why a command on a run ends without what it was asked for: a file of the line couldn't be read or lacks what is asked for, the output failed, or
-- the run is refused
abbrev pub EndsFor : FileRelations → Run → Type 0 → CommandFailure → Type 0
EndsFor files run failed f =
    IsFileFailure files (IsFileOfRun run) (LacksSpurious files run.program) f ⊎ IsOutput failed f ⊎ RefusedRun files run failed f
