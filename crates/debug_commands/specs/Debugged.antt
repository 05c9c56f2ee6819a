-- What a debugger is served, what standard error takes, and with which status that ends.
use Rattle.std.specs.Prelude.{◌≡◌, ℕ, List, ◌++◌, codes, None}
use Rattle.std.specs.Fmt.{decimal}
use Rattle.debug_commands.specs.Debuggees.{IsDebuggee, IsUnopened}
use Rattle.debug_commands.specs.declared.debuggee.Debuggee.{Debuggee}
use Rattle.debug_commands.specs.declared.debuggee.Debuggee.TheVariants as debuggees
use Rattle.execution_commands.specs.Verdicts.{IsVerdictText}
use Rattle.execution_scripts.specs.declared.checking.Checked.{Checked}
use Rattle.execution_session.specs.Serving.{HasEnded as HasLeft, Served as ServedExecution, Talking as TalkingOf}
use Rattle.execution_moments.specs.Looked.{looked_at}
use Rattle.execution_moments.specs.declared.past.Past.{Past}
use Rattle.gdb_packets.specs.Stream.{next_of}
use Rattle.gdb_runs.specs.Sessions.{OfRun}
use Rattle.gdb_runs.specs.declared.debugged.Debugged.{Debugged}
use Rattle.gdb_session.specs.Serving.{HasEnded, Served, Talking}
use Rattle.gdb_talk.specs.Serving.{Refused}
use Rattle.host_io.specs.Taken.{BeganText}
use Rattle.program_files.specs.Failures.{failure_number}
use Rattle.program_files.specs.declared.failure.CommandFailure.{CommandFailure}
use Rattle.program_files.specs.declared.exit_status.ExitStatus.{ExitStatus}
use Rattle.program_files.specs.declared.exit_status.ExitStatus.TheVariants as statuses
use Rattle.program_files.specs.Relations.{FileRelations}

-- what a debugger said, what it was answered, and what standard error took, each before and after
pub record Dialogue : Type 0 where
  pub gave : List ℕ
  pub gave_then : List ℕ
  pub took : List ℕ
  pub took_then : List ℕ
  pub told : List ℕ
  pub told_then : List ℕ

-- a debugger that looks at the run was served until it left, or its input ended
abbrev pub IsServed : Debugged → Dialogue → Type 0
IsServed d w = OfRun d (λ r. (t : Talking) × (rest : List ℕ) × Served r w.gave w.gave_then w.took w.took_then rest t × HasEnded t rest)

-- one that looks at an execution was
abbrev pub IsServedPast : Past → Dialogue → Type 0
IsServedPast p w = (t : TalkingOf) × (rest : List ℕ) × ServedExecution (looked_at p) w.gave w.gave_then w.took w.took_then rest t × HasLeft t rest

-- each of its requests was answered by the number of a refusal, until its input ended
abbrev pub IsRefusedEach : ℕ → Dialogue → Type 0
IsRefusedEach number w = (rest : List ℕ) × (next_of rest ≡ None) × Refused number w.gave w.gave_then w.took w.took_then rest

-- standard error took what was found against an execution
abbrev pub IsToldVerdict : Checked → Dialogue → Type 0
IsToldVerdict c w = (text : List ℕ) × IsVerdictText c text × (w.told_then ≡ w.told ++ text)

-- the line of a refusal
abbrev pub error_line : ℕ → List ℕ
error_line number = codes "error " ++ decimal number ++ codes "\n"

-- it took that line and some words, or a beginning of them
abbrev pub IsToldRefusal : ℕ → List ℕ → List ℕ → Type 0
IsToldRefusal number told told_then = (words : List ℕ) × BeganText told told_then (error_line number ++ words)

-- the debugger was served what it looks at, and that is the status
abbrev pub IsServedBy : Debuggee → ExitStatus → Dialogue → Type 0
IsServedBy (debuggees.Run d) status w = (status ≡ statuses.Done) × (w.told_then ≡ w.told) × IsServed d w
IsServedBy (debuggees.Execution p) status w = (status ≡ statuses.Done) × (w.told_then ≡ w.told) × IsServedPast p w
IsServedBy (debuggees.Refused c) status w = (status ≡ statuses.Differs) × IsToldVerdict c w × IsRefusedEach 0 w

-- the debugger was told why there is nothing to look at
pub record IsToldWhy (f : CommandFailure) (status : ExitStatus) (w : Dialogue) : Type 0 where
  pub is_status : status ≡ statuses.Refused
  pub told : IsToldRefusal (failure_number f) w.told w.told_then
  pub answered : IsRefusedEach (failure_number f) w

-- it was served what the file of the path holds, or told why there is nothing to look at
pub data IsDebugged (files : FileRelations) (path : List ℕ) (status : ExitStatus) (w : Dialogue) : Type 0 where
  Looks : (d : Debuggee) → IsDebuggee files path d → IsServedBy d status w → IsDebugged files path status w
  Is_refused : (f : CommandFailure) → IsUnopened files path f → IsToldWhy f status w → IsDebugged files path status w
