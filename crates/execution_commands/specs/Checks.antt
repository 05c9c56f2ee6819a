-- The execution that `check` looks at, and why it ends without a verdict. `failed` says that the output failed.
use Rattle.std.specs.Prelude.{◌≡◌, ◌⊎◌, List, None, ℕ}
use Rattle.execution_commands.specs.Texts.{IsNoExecution}
use Rattle.program_files.specs.declared.failure.CommandFailure.{CommandFailure}
use Rattle.execution_file.specs.Grammar.{IsExecution}
use Rattle.execution_file.specs.Recorded.{Recorded}
use Rattle.execution_scripts.specs.Findings.{IsFound, guest_in}
use Rattle.execution_scripts.specs.declared.checking.Checked.{Checked}
use Rattle.host_io.specs.declared.error.RunError.{RunError}
use Rattle.program_files.specs.Failures.{IsCutOff, IsFileFailure}
use Rattle.program_files.specs.declared.failure.CommandFailure.TheVariants.{Refused}
use Rattle.program_files.specs.Relations.{FileRelations}

-- the execution that a text says, and what is found of it
pub record CheckedText (text : List ℕ) : Type 0 where
  pub execution : Recorded
  pub checked : Checked
  pub says : IsExecution text execution
  pub found : IsFound (guest_in execution) execution None checked.finding checked

-- the same of the text that a file held
pub record CheckedFile (files : FileRelations) (path : List ℕ) : Type 0 where
  pub text : List ℕ
  pub held : files.holds path text
  pub made : CheckedText text

-- the checked execution
abbrev pub checked_in : {files : FileRelations} {path : List ℕ} → CheckedFile files path → Checked
checked_in a = a.made.checked

-- the text is an execution, and it isn't checked for this error: its guest is refused, or memory
pub record IsUnchecked (text : List ℕ) (failure : CommandFailure) : Type 0 where
  pub execution : Recorded
  pub says : IsExecution text execution
  pub error : RunError
  pub is_error : failure ≡ Refused error

-- the file of the path held a text of which this is so
pub record Held (files : FileRelations) (path : List ℕ) (P : List ℕ → Type 0) : Type 0 where
  pub text : List ℕ
  pub held : files.holds path text
  pub so : P text

-- why a file isn't checked: it couldn't be read, its text is no execution, its guest is refused, or memory is
abbrev pub IsUncheckedFile : FileRelations → List ℕ → CommandFailure → Type 0
IsUncheckedFile files path failure =
    IsFileFailure files (λ named. named ≡ path) ⊥ failure ⊎ Held files path (λ text. IsNoExecution text failure ⊎ IsUnchecked text failure)

-- why the command ends without a verdict: the file isn't checked, memory is refused, or the output failed
abbrev pub EndsCheck : FileRelations → List ℕ → Type 0 → CommandFailure → Type 0
EndsCheck files path failed f = IsUncheckedFile files path f ⊎ ((error : RunError) × (f ≡ Refused error) × IsCutOff failed error)
