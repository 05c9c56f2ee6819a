-- What a debugger looks at, and why there is nothing to look at.
use Rattle.std.specs.Prelude.{◌≡◌, ◌≢◌, ◌⊎◌, ◌+◌, ◌^◌, ◌≤◌, ℕ, List}
use Rattle.debug_commands.specs.declared.debuggee.Debuggee.{Debuggee}
use Rattle.debug_commands.specs.declared.debuggee.Debuggee.TheVariants as debuggees
use Rattle.execution_checker.specs.declared.verdict.Verdict.TheVariants.{Allowed}
use Rattle.execution_file.specs.Grammar.{IsExecution}
use Rattle.execution_file.specs.Recorded.{Recorded as Said}
use Rattle.execution_scripts.specs.declared.checking.Finding.TheVariants.{Judged}
use Rattle.execution_session.specs.Opening.{IsAgainst, IsPastOf}
use Rattle.gdb_runs.specs.Sessions.{IsReady, handed, image_of}
use Rattle.gdb_runs.specs.declared.debugged.Debugged.{Debugged}
use Rattle.gdb_session.specs.Serving.{begun}
use Rattle.host_io.specs.declared.error.RunError.{RunError}
use Rattle.host_io.specs.declared.error.RunError.TheVariants as refusals
use Rattle.host_io.specs.declared.load_error.LoadError.{LoadError as ImageCause}
use Rattle.host_io.specs.declared.plan_error.PlanError.{PlanError as PlanCause}
use Rattle.machine.specs.Untraced.{IsUntraced}
use Rattle.execution_commands.specs.Texts.{IsNoExecution}
use Rattle.past_commands.specs.Past.{EndsReading, HoldsPast}
use Rattle.program_files.specs.declared.failure.CommandFailure.{CommandFailure}
use Rattle.program_files.specs.declared.failure.CommandFailure.TheVariants as failures
use Rattle.past_commands.specs.declared.past.Past.{Past}
use Rattle.past_commands.specs.declared.past.Past.TheVariants as pasts
use Rattle.program_files.specs.Relations.{FileRelations}
use Rattle.recording.specs.Recorded.{Recorded}
use Rattle.replayer.specs.Refusals.{HasImage, HasImageCause, HasPlanCause, HasReason}
use Rattle.replayer.specs.Replayed.{IsPlanFor, format_of, start_of}
use Rattle.round_planner.specs.Quotas.{Planned}

-- ---- recordings

-- the run of a recording before its first round: from its inputs, by its plan, and over as many rounds; the debugger is handed its image if
-- that is an ELF file
pub record IsRunOf (r : Recorded) (d : Debugged) : Type 0 where
  pub plan : Planned
  pub planned : IsPlanFor r plan
  pub start : IsUntraced (start_of r plan) d.timeline.start
  pub rounds : d.timeline.rounds ≡ r.rounds
  pub image : image_of d ≡ handed (format_of r.format) r.image
  pub ready : IsReady d begun.state.standing

-- it is refused for its image, by the least cause; where nothing speaks against this, for its plan; and then for more rounds than a debugger
-- can look at; or memory was refused
pub record IsRefusal (r : Recorded) (e : RunError) : Type 0 where
  pub image : (cause : ImageCause) → HasImageCause r cause → (e ≡ refusals.Image cause) ⊎ (e ≡ refusals.OutOfMemory)
  pub plan : (cause : PlanCause) → HasImage r → HasPlanCause r cause → (e ≡ refusals.Plan cause) ⊎ (e ≡ refusals.OutOfMemory)
  pub reason : HasReason r e ⊎ ((e ≡ refusals.RoundsExhausted) × (2 ^ 32 ≤ r.rounds + 2))

abbrev pub IsRefusedRun : Recorded → CommandFailure → Type 0
IsRefusedRun r f = (e : RunError) × (f ≡ failures.Refused e) × IsRefusal r e

-- a recording's run is looked at
abbrev pub IsRecordingDebuggee : Recorded → Debuggee → Type 0
IsRecordingDebuggee r (debuggees.Run d) = IsRunOf r d
IsRecordingDebuggee r (debuggees.Execution p) = ⊥
IsRecordingDebuggee r (debuggees.Refused c) = ⊥

-- ---- executions

-- one that RVWMO allows is looked at; against any other something was found
abbrev pub IsExecutionDebuggee : Said → Debuggee → Type 0
IsExecutionDebuggee file (debuggees.Run d) = ⊥
IsExecutionDebuggee file (debuggees.Execution p) = IsPastOf file p
IsExecutionDebuggee file (debuggees.Refused c) = IsAgainst file c

-- a text says an execution, and that is looked at
abbrev pub IsTextDebuggee : List ℕ → Debuggee → Type 0
IsTextDebuggee text d = (file : Said) × IsExecution text file × IsExecutionDebuggee file d

-- or it isn't: the text is none, its guest is refused, or memory is
abbrev pub IsRefusedText : List ℕ → CommandFailure → Type 0
IsRefusedText text f = IsNoExecution text f ⊎ ((file : Said) × IsExecution text file × ((e : RunError) × (f ≡ failures.Refused e)))

-- ---- what can be served

-- a run stands before its first round, and against an execution that is refused something was found
abbrev pub IsGood : Debuggee → Type 0
IsGood (debuggees.Run d) = IsReady d begun.state.standing
IsGood (debuggees.Execution p) = Unit {0}
IsGood (debuggees.Refused c) = c.finding ≢ Judged Allowed

-- ---- what a file holds

abbrev pub IsDebuggeeOf : Past → Debuggee → Type 0
IsDebuggeeOf (pasts.Recording r) d = IsRecordingDebuggee r d
IsDebuggeeOf (pasts.Execution text) d = IsTextDebuggee text.items d

abbrev pub IsRefusedPast : Past → CommandFailure → Type 0
IsRefusedPast (pasts.Recording r) f = IsRefusedRun r f
IsRefusedPast (pasts.Execution text) f = IsRefusedText text.items f

-- this is what a debugger looks at that is given the file of the path
pub record IsDebuggee (files : FileRelations) (path : List ℕ) (d : Debuggee) : Type 0 where
  pub past : Past
  pub holds : HoldsPast files path past
  pub is : IsDebuggeeOf past d

-- why there is nothing to look at: the file can't be read, it holds neither a recording nor an execution, or what it holds is refused
abbrev pub IsUnopened : FileRelations → List ℕ → CommandFailure → Type 0
IsUnopened files path f = EndsReading files path f ⊎ ((past : Past) × HoldsPast files path past × IsRefusedPast past f)
