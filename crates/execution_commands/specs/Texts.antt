-- Texts that are executions, and those that are none.
use Rattle.std.specs.Prelude.{◌≡◌, ◌+◌, ◌-◌, ◌==◌, Bool, Err, List, [], ◌∷◌, codes, if◌then◌else◌, length, nat_eq, take, ℕ}
use Rattle.std.specs.List.{starts_with}
use Rattle.program_files.specs.declared.failure.CommandFailure.{CommandFailure}
use Rattle.program_files.specs.declared.failure.CommandFailure.TheVariants as failures
use Rattle.execution_file.specs.Grammar.{reading}
use Rattle.execution_file.specs.declared.cause.Refusal.{Refusal}
use Rattle.execution_file.specs.declared.cause.Cause.{Cause}
use Rattle.host_io.specs.declared.error.RunError.TheVariants as refusals

-- the text begins as an execution
abbrev pub is_execution : List ℕ → Bool
is_execution text = starts_with nat_eq text (codes "executio")

-- how many lines end in a text
abbrev pub line_ends : List ℕ → ℕ
line_ends [] = 0
line_ends (b ∷ bs) = (if b == 10 then 1 else 0) + line_ends bs

-- the text is refused for this cause in this line, counted from 1 on
pub record IsRefusedIn (text : List ℕ) (cause : Cause) (line : ℕ) : Type 0 where
  pub refusal : Refusal
  pub refused : reading text ≡ Err refusal
  pub is_cause : cause ≡ refusal.cause
  pub is_line : line ≡ line_ends (take (length text - refusal.left) text) + 1

-- why no execution is read from a text: memory is refused, or the text
abbrev pub IsNoExecution : List ℕ → CommandFailure → Type 0
IsNoExecution text (failures.Refused error) = error ≡ refusals.OutOfMemory
IsNoExecution text (failures.NoExecution cause line) = IsRefusedIn text cause line
IsNoExecution text _ = ⊥
