-- Why a command isn't done, and the number of that.
use Rattle.std.specs.Prelude.{◌≡◌, ◌⊎◌, ◌<◌, List, ℕ, Result, Ok, Err, string_bytes}
use Rattle.execution_file.specs.Refusals.{cause_number}
use Rattle.fence_table.specs.Accepting.{accept_number}
use Rattle.host_io.specs.RunErrors.{number_of}
use Rattle.host_io.specs.declared.error.RunError.{RunError}
use Rattle.host_io.specs.declared.error.RunError.TheVariants as refusals
use Rattle.hunt_table.specs.Refusals.{merge_number}
use Rattle.hunt_table.specs.declared.merge_error.MergeError.{MergeError}
use Rattle.hunt_table.specs.declared.merge_error.MergeError.TheVariants as merges
use Rattle.program_files.specs.Naming.{naming_number}
use Rattle.program_files.specs.Relations.{FileRelations}
use Rattle.program_files.specs.declared.reasons.Apart.{Apart}
use Rattle.program_files.specs.declared.reasons.Apart.TheVariants as causes
use Rattle.program_files.specs.declared.failure.CommandFailure.{CommandFailure}
use Rattle.program_files.specs.declared.failure.CommandFailure.TheVariants as failures
use Rattle.program_files.specs.declared.files.FileFault.{FileFault}
use Rattle.program_files.specs.declared.files.FileFault.TheVariants as faults
use Rattle.recording.specs.Refusals.{refusal_number}
use Rattle.weak_hunter.specs.Refusals.{weak_hunt_number}

-- ---- numbers

-- the number of a file that can't be read
abbrev pub fault_number : FileFault → ℕ
fault_number faults.TooLarge = 62
fault_number faults.OutOfMemory = 20
fault_number _ = 61

-- tables of different programs have a number of their own
abbrev pub apart_number : Apart → ℕ
apart_number causes.Program = 78
apart_number _ = 72

-- the number of the refusal
abbrev pub failure_number : CommandFailure → ℕ
failure_number (failures.Refused error) = number_of error
failure_number (failures.Plan error line) = number_of error
failure_number (failures.File path fault) = fault_number fault
failure_number (failures.Unwritten path) = 21
failure_number failures.NoSpurious = 79
failure_number (failures.Naming fault) = naming_number fault
failure_number (failures.Unread error) = refusal_number error
failure_number (failures.NoExecution cause line) = cause_number cause
failure_number failures.NoRounds = 88
failure_number (failures.Hunt error) = weak_hunt_number error
failure_number (failures.NotATable path) = 71
failure_number (failures.Apart last next why) = apart_number why
failure_number (failures.Merge error) = merge_number error
failure_number (failures.Unlike why) = 72
failure_number (failures.Accept error) = accept_number error
failure_number (failures.NoPlace word why) = 77

-- nothing was printed, unless the failure is one that may cut a text off: memory's, which has the number 20, or the output's, 21
abbrev pub IsUnprinted : ℕ → List ℕ → List ℕ → Type 0
IsUnprinted number old new = (new ≡ old) ⊎ (number ≡ 20) ⊎ (number ≡ 21)

-- ---- memory and the output

-- memory was refused
abbrev pub out_of_memory : CommandFailure
out_of_memory = failures.Refused refusals.OutOfMemory

-- an output failed: more often than before, or it couldn't hand on what it took
abbrev pub HasFailed : {O : Type 0} → (O → ℕ) → (O → Type 0) → O → O → Type 0
HasFailed failures is_stuck old new = (failures old < failures new) ⊎ is_stuck new

-- memory was refused, or the output failed
abbrev pub IsCutOff : Type 0 → RunError → Type 0
IsCutOff failed error = (error ≡ refusals.OutOfMemory) ⊎ ((error ≡ refusals.SinkFailed) × failed)

-- the output failed
abbrev pub IsOutput : Type 0 → CommandFailure → Type 0
IsOutput failed failure = (failure ≡ failures.Refused refusals.SinkFailed) × failed

-- memory was refused, or the output failed
abbrev pub IsCutEnd : Type 0 → CommandFailure → Type 0
IsCutEnd failed failure = (failure ≡ out_of_memory) ⊎ IsOutput failed failure

-- ---- files

-- one of the files that are named couldn't be read, the image is without the object `dethart_spurious`, or memory was refused
abbrev pub IsFileFailure : FileRelations → (List ℕ → Type 0) → Type 0 → CommandFailure → Type 0
IsFileFailure files is_named is_without (failures.Refused error) = error ≡ refusals.OutOfMemory
IsFileFailure files is_named is_without (failures.File path fault) = is_named (string_bytes path) × files.lacks (string_bytes path) fault
IsFileFailure files is_named is_without failures.NoSpurious = is_without
IsFileFailure files is_named is_without _ = ⊥

-- the failure tells that the file of a path couldn't be read for this fault, or that memory was refused
abbrev pub TellsFault : List ℕ → FileFault → CommandFailure → Type 0
TellsFault path fault (failures.Refused error) = error ≡ refusals.OutOfMemory
TellsFault path fault (failures.File told cause) = (string_bytes told ≡ path) × (cause ≡ fault)
TellsFault path fault _ = ⊥

-- the file of a path couldn't be made or written, as `wasnt_given` says of a path, or memory was refused
abbrev pub IsUnwritten : (List ℕ → Type 0) → List ℕ → CommandFailure → Type 0
IsUnwritten wasnt_given path (failures.Refused error) = error ≡ refusals.OutOfMemory
IsUnwritten wasnt_given path (failures.Unwritten text) = (string_bytes text ≡ path) × wasnt_given path
IsUnwritten wasnt_given path _ = ⊥

-- ---- runs and merges

-- the failure tells this refusal
abbrev pub Tells : RunError → CommandFailure → Type 0
Tells error (failures.Refused told) = told ≡ error
Tells error (failures.Plan told line) = told ≡ error
Tells error _ = ⊥

-- an answer stays, and a refusal is told
abbrev pub IsTold : {X : Type 0} → Result X RunError → Result X CommandFailure → Type 0
IsTold (Ok value) (Ok answer) = answer ≡ value
IsTold (Err error) (Err failure) = Tells error failure
IsTold (Ok value) (Err failure) = ⊥
IsTold (Err error) (Ok answer) = ⊥

-- what refuses a merge refuses the command
abbrev pub merging_failure : MergeError → CommandFailure
merging_failure (merges.Run error) = failures.Refused error
merging_failure error = failures.Merge error
