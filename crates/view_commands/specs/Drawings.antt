-- What `draw` prints of a run or of an execution, and why it ends without it. `old` and `new` are what was printed before and after; `text` and
-- `budget` are those of the plan, and `failed` says that the output failed.
use Rattle.std.specs.Prelude.{◌≡◌, ◌⊎◌, ◌++◌, ◌&&◌, ◌||◌, Bool, List, None, Option, Some, false, is_some, nat_lt, not, true, ℕ}
use Rattle.command_line.specs.declared.settings.Draw.{Draw}
use Rattle.execution_commands.specs.Checks.{CheckedText, IsUnchecked}
use Rattle.execution_commands.specs.Texts.{IsNoExecution, is_execution}
use Rattle.execution_commands.specs.Verdicts.{IsVerdictText, is_allowed, verdict_status}
use Rattle.execution_file.specs.Grammar.{IsExecution}
use Rattle.execution_file.specs.Recorded.{Recorded}
use Rattle.host_io.specs.Taken.{BeganText}
use Rattle.host_io.specs.declared.error.RunError.TheVariants as refusals
use Rattle.host_io.specs.declared.load_error.LoadError.{LoadError as ImageCause}
use Rattle.round_planner.specs.Settings.{IsImageCause, settings_fault}
use Rattle.program_files.specs.declared.fault.NamingFault.{NamingFault}
use Rattle.program_files.specs.Asked.{IsFileOfRun, IsGiven, LacksSpurious, RefusedSetRun, SetRun}
use Rattle.program_files.specs.Failures.{IsCutEnd, IsFileFailure, IsOutput, out_of_memory}
use Rattle.program_files.specs.Relations.{FileRelations}
use Rattle.program_files.specs.declared.exit_status.ExitStatus.{ExitStatus}
use Rattle.program_files.specs.declared.exit_status.ExitStatus.TheVariants.{Done}
use Rattle.view_commands.specs.Views.{IsNamed, SetDraw, drawn_text}
use Rattle.program_files.specs.declared.failure.CommandFailure.{CommandFailure}
use Rattle.program_files.specs.declared.failure.CommandFailure.TheVariants as failures

-- ---- runs

-- the picture of the run was printed, and nothing is wrong with the bytes that it is to show
pub record DrawsRun (asked : Draw) (image input text : List ℕ) (budget : ℕ) (old new : List ℕ) (status : ExitStatus) : Type 0 where
  pub drawn : SetDraw asked image text budget
  pub sound : IsNamed asked image asked.run.program.pages None
  pub prints : new ≡ old ++ drawn_text input drawn
  pub is_status : status ≡ Done

-- a beginning of it was
pub record IsBegunRun (asked : Draw) (image input text : List ℕ) (budget : ℕ) (old new : List ℕ) : Type 0 where
  pub drawn : SetDraw asked image text budget
  pub sound : IsNamed asked image asked.run.program.pages None
  pub began : BeganText old new (drawn_text input drawn)

-- nothing refuses the run, but this is wrong with the bytes
pub record IsMisnamed (asked : Draw) (image text : List ℕ) (budget : ℕ) (fault : NamingFault) : Type 0 where
  pub run : SetRun asked.run.program text budget
  pub in_range : settings_fault run.settings ≡ None
  pub sound : (cause : ImageCause) → IsImageCause run.settings image cause → ⊥
  pub named : IsNamed asked image asked.run.program.pages (Some fault)

-- why a run isn't drawn
abbrev pub IsRunEnd : Draw → List ℕ → List ℕ → ℕ → Type 0 → CommandFailure → Type 0
IsRunEnd asked image text budget failed f =
    (f ≡ out_of_memory) ⊎ RefusedSetRun asked.run.program text budget image failed f
    ⊎ ((fault : NamingFault) × (f ≡ failures.Naming fault) × IsMisnamed asked image text budget fault)

-- ---- executions

-- the line asks for rounds, which an execution has none of
abbrev pub asks_rounds : Draw → Bool
asks_rounds asked = is_some asked.from || is_some asked.to

abbrev pub has_bad_workers : Draw → Bool
has_bad_workers asked = nat_lt asked.run.program.workers 1 || nat_lt 16 asked.run.program.workers

-- the line asks for no rounds, and for 1 to 16 workers
pub record IsAskable (asked : Draw) : Type 0 where
  pub no_rounds : asks_rounds asked ≡ false
  pub workers : has_bad_workers asked ≡ false

-- of an execution that isn't allowed it was printed why; of one that is, no more is said here than that nothing is wrong with the bytes that
-- are to be shown of it
abbrev pub PrintsFound : Bool → Draw → (execution : Recorded) → (List ℕ → Type 0) → List ℕ → List ℕ → Type 0
PrintsFound true asked execution IsSaid old new = IsNamed asked execution.image execution.pages None
PrintsFound false asked execution IsSaid old new = (said : List ℕ) × IsSaid said × (new ≡ old ++ said)

abbrev pub BeginsFound : Bool → Draw → (execution : Recorded) → (List ℕ → Type 0) → List ℕ → List ℕ → Type 0
BeginsFound true asked execution IsSaid old new = IsNamed asked execution.image execution.pages None
BeginsFound false asked execution IsSaid old new = (said : List ℕ) × IsSaid said × BeganText old new said

-- the execution that the file holds was drawn, or it was printed why it isn't allowed
pub record DrawsExecution (asked : Draw) (file old new : List ℕ) (status : ExitStatus) : Type 0 where
  pub made : CheckedText file
  pub askable : IsAskable asked
  pub prints : PrintsFound (is_allowed made.checked.finding) asked made.execution (IsVerdictText made.checked) old new
  pub is_status : status ≡ verdict_status made.checked.finding

-- a beginning of that was printed
pub record IsBegunExecution (asked : Draw) (file old new : List ℕ) : Type 0 where
  pub made : CheckedText file
  pub askable : IsAskable asked
  pub began : BeginsFound (is_allowed made.checked.finding) asked made.execution (IsVerdictText made.checked) old new

-- the execution is allowed, and this is wrong with the bytes
pub record IsMisnamedThere (asked : Draw) (file : List ℕ) (fault : NamingFault) : Type 0 where
  pub made : CheckedText file
  pub askable : IsAskable asked
  pub allowed : is_allowed made.checked.finding ≡ true
  pub named : IsNamed asked made.execution.image made.execution.pages (Some fault)

-- why the line isn't askable: for rounds, and else for the number of workers
abbrev pub IsUnasked : Draw → CommandFailure → Type 0
IsUnasked asked failures.NoRounds = asks_rounds asked ≡ true
IsUnasked asked (failures.Refused error) = (asks_rounds asked ≡ false) × (has_bad_workers asked ≡ true) × (error ≡ refusals.WorkersOutOfRange)
IsUnasked asked _ = ⊥

-- why an execution that was checked isn't drawn
abbrev pub IsCheckedEnd : Draw → Recorded → Bool → Type 0 → CommandFailure → Type 0
IsCheckedEnd asked execution allowed failed (failures.Naming fault) = (allowed ≡ true) × IsNamed asked execution.image execution.pages (Some fault)
IsCheckedEnd asked execution allowed failed f = IsCutEnd failed f

-- why an execution isn't drawn: rounds are refused before the number of workers, and that before the execution's guest
abbrev pub IsExecutionEnd : Draw → List ℕ → Type 0 → CommandFailure → Type 0
IsExecutionEnd asked file failed f =
    IsCutEnd failed f ⊎ IsNoExecution file f ⊎ (IsUnasked asked f × (execution : Recorded) × IsExecution file execution)
    ⊎ (IsAskable asked × IsUnchecked file f) ⊎ ((fault : NamingFault) × (f ≡ failures.Naming fault) × IsMisnamedThere asked file fault)

-- ---- the command

-- the image's file, which isn't flat, begins as an execution
abbrev pub is_of_execution : Draw → List ℕ → Bool
is_of_execution asked image = not asked.run.program.flat && is_execution image

abbrev pub DrawsBy : Bool → Draw → List ℕ → List ℕ → List ℕ → ℕ → List ℕ → List ℕ → ExitStatus → Type 0
DrawsBy true asked image input text budget old new status = DrawsExecution asked image old new status
DrawsBy false asked image input text budget old new status = DrawsRun asked image input text budget old new status

-- what was asked for was printed
abbrev pub Draws : Draw → List ℕ → List ℕ → List ℕ → ℕ → List ℕ → List ℕ → ExitStatus → Type 0
Draws asked image input text budget old new status = DrawsBy (is_of_execution asked image) asked image input text budget old new status

abbrev pub IsBegunBy : Bool → Draw → List ℕ → List ℕ → List ℕ → ℕ → List ℕ → List ℕ → Type 0
IsBegunBy true asked image input text budget old new = IsBegunExecution asked image old new
IsBegunBy false asked image input text budget old new = IsBegunRun asked image input text budget old new

-- a beginning of it was
abbrev pub IsBegun : Draw → List ℕ → List ℕ → List ℕ → ℕ → List ℕ → List ℕ → Type 0
IsBegun asked image input text budget old new = IsBegunBy (is_of_execution asked image) asked image input text budget old new

abbrev pub IsEndBy : Bool → Draw → List ℕ → List ℕ → ℕ → Type 0 → CommandFailure → Type 0
IsEndBy true asked image text budget failed f = IsExecutionEnd asked image failed f
IsEndBy false asked image text budget failed f = IsRunEnd asked image text budget failed f

-- why nothing is drawn of what the files gave
abbrev pub IsDrawEnd : Draw → List ℕ → List ℕ → ℕ → Type 0 → CommandFailure → Type 0
IsDrawEnd asked image text budget failed f = IsEndBy (is_of_execution asked image) asked image text budget failed f

-- what the files of the line give
pub record AskedDraw (files : FileRelations) (asked : Draw) : Type 0 where
  pub image : List ℕ
  pub input : List ℕ
  pub text : List ℕ
  pub budget : ℕ
  pub given : IsGiven files asked.run image input text budget

-- a file of the line couldn't be read or lacks what is asked for, memory is refused, or the output failed
abbrev pub IsFileEnd : FileRelations → Type 0 → Draw → Type 0 → CommandFailure → Type 0
IsFileEnd files is_without asked failed f = IsFileFailure files (IsFileOfRun asked.run) is_without f ⊎ IsOutput failed f

-- why the command ends without a picture
abbrev pub EndsDraw : FileRelations → Draw → Type 0 → CommandFailure → Type 0
EndsDraw files asked failed f =
    IsFileEnd files (LacksSpurious files asked.run.program) asked failed f ⊎ ((a : AskedDraw files asked) × IsDrawEnd asked a.image a.text a.budget failed f)
