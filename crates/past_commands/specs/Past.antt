-- Recordings and executions that files hold.
use Rattle.std.specs.Prelude.{◌≡◌, ◌⊎◌, ℕ, List, codes, false, true}
use Rattle.execution_commands.specs.Texts.{is_execution}
use Rattle.program_files.specs.declared.failure.CommandFailure.{CommandFailure}
use Rattle.program_files.specs.declared.failure.CommandFailure.TheVariants.{Unread}
use Rattle.past_commands.specs.declared.past.Past.{Past}
use Rattle.past_commands.specs.declared.past.Past.TheVariants.{Execution, Recording}
use Rattle.program_files.specs.Failures.{IsFileFailure}
use Rattle.program_files.specs.Relations.{FileRelations}
use Rattle.recording.specs.Grammar.{IsRecording, reading}
use Rattle.recording.specs.Views.{Fails}
use Rattle.recording.specs.declared.cause.ReadError.{ReadError}

-- what every recording begins with, and what every execution does
abbrev pub recording_mark : List ℕ
recording_mark = codes "RVDETREC"

abbrev pub execution_mark : List ℕ
execution_mark = codes "executio"

-- the file of a path has this text, as far as it was read
abbrev pub HasText : FileRelations → List ℕ → List ℕ → Type 0
HasText files path text = files.either path recording_mark execution_mark text

-- the file of a path holds this recording, or it begins as an execution and has this text
abbrev pub HoldsPast : FileRelations → List ℕ → Past → Type 0
HoldsPast files path (Recording r) = (text : List ℕ) × HasText files path text × IsRecording text r
HoldsPast files path (Execution text) = HasText files path text.items × (is_execution text.items ≡ true)

-- why neither was read of it: the file can't be read, memory was refused, or it doesn't begin as an execution and holds no recording
abbrev pub EndsReading : FileRelations → List ℕ → CommandFailure → Type 0
EndsReading files path failure =
    IsFileFailure files (λ named. named ≡ path) ⊥ failure
    ⊎ ((error : ReadError) × (failure ≡ Unread error) × (text : List ℕ) × HasText files path text × (is_execution text ≡ false) × Fails error (reading text))
