-- Recordings that files hold.
use Rattle.std.specs.Prelude.{◌≡◌, ◌⊎◌, ℕ, List, codes}
use Rattle.program_files.specs.Failures.{IsFileFailure}
use Rattle.program_files.specs.Relations.{FileRelations}
use Rattle.program_files.specs.declared.failure.CommandFailure.{CommandFailure}
use Rattle.program_files.specs.declared.failure.CommandFailure.TheVariants.{Unread}
use Rattle.recording.specs.Grammar.{IsRecording, reading}
use Rattle.recording.specs.Recorded.{Recorded}
use Rattle.recording.specs.Views.{Fails}
use Rattle.recording.specs.declared.cause.ReadError.{ReadError}

-- what every recording begins with
abbrev pub recording_mark : List ℕ
recording_mark = codes "RVDETREC"

-- the file of a path holds this recording
pub record HoldsRecording (files : FileRelations) (path : List ℕ) (r : Recorded) : Type 0 where
  pub text : List ℕ
  pub held : files.marked path recording_mark text
  pub is_recording : IsRecording text r

-- it holds none, for this reason
pub record HoldsNoRecording (files : FileRelations) (path : List ℕ) (e : ReadError) : Type 0 where
  pub text : List ℕ
  pub held : files.marked path recording_mark text
  pub fails : Fails e (reading text)

-- why no recording was read: the file can't be read, memory was refused, or it holds none
abbrev pub EndsReading : FileRelations → List ℕ → CommandFailure → Type 0
EndsReading files path failure =
    IsFileFailure files (λ named. named ≡ path) ⊥ failure ⊎ ((error : ReadError) × (failure ≡ Unread error) × HoldsNoRecording files path error)
