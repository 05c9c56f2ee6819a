-- Why `replay` and `watch` end without an answer.
use Rattle.std.specs.Prelude.{◌≡◌, ◌⊎◌, ◌||◌, ℕ, Bool, true, false, List, Option, Some, None, Err, Ok, is_some}
use Rattle.command_line.specs.declared.settings.Replay.{Replay}
use Rattle.command_line.specs.declared.settings.Watch.{Watch}
use Rattle.execution_file.specs.Grammar.{IsExecution}
use Rattle.execution_file.specs.Recorded.{Recorded as Executed}
use Rattle.host_io.specs.declared.error.RunError.{RunError}
use Rattle.host_io.specs.declared.error.RunError.TheVariants as refusals
use Rattle.program_files.specs.Naming.{IsMissing, first_missing}
use Rattle.program_files.specs.declared.fault.NamingFault.{NamingFault}
use Rattle.execution_commands.specs.Texts.{IsNoExecution}
use Rattle.past_commands.specs.Failures.{IsUnnamed}
use Rattle.program_files.specs.Failures.{IsOutput, out_of_memory}
use Rattle.past_commands.specs.Past.{EndsReading, HoldsPast}
use Rattle.past_commands.specs.Questions.{IsSeeing}
use Rattle.past_commands.specs.Watches.{names_watched}
use Rattle.program_files.specs.declared.failure.CommandFailure.{CommandFailure}
use Rattle.program_files.specs.declared.failure.CommandFailure.TheVariants.{Naming, NoRounds, Refused}
use Rattle.past_commands.specs.declared.past.Past.{Past}
use Rattle.past_commands.specs.declared.past.Past.TheVariants.{Execution, Recording}
use Rattle.program_files.specs.Relations.{FileRelations}
use Rattle.recording.specs.Recorded.{Recorded}
use Rattle.round_schedule.specs.Bounds.{AreNoWorkers, AreWorkers}
use Rattle.replayer.specs.Refusals.{RefusedInOrder}

-- ---- recordings

-- the run of a recording is refused for this: its workers, then its image, then its plan, or for want of memory
abbrev pub IsRefusal : ℕ → Recorded → RunError → Type 0
IsRefusal workers r e = RefusedInOrder {X = Unit {0}} workers r (Err e)

-- nothing refuses it
abbrev pub IsAccepted : ℕ → Recorded → Type 0
IsAccepted workers r = RefusedInOrder {X = Unit {0}} workers r (Ok tt)

-- the run is refused, or memory was
abbrev pub IsRefusedRun : ℕ → Recorded → CommandFailure → Type 0
IsRefusedRun workers r f = (f ≡ out_of_memory) ⊎ ((e : RunError) × (f ≡ Refused e) × IsRefusal workers r e)

-- bytes of which this is wrong can't be looked at; what refuses the run comes before
abbrev pub IsRefusedFor : NamingFault → ℕ → Recorded → CommandFailure → Type 0
IsRefusedFor fault workers r f = IsRefusedRun workers r f ⊎ ((f ≡ Naming fault) × IsAccepted workers r)

-- why a recording has no answer to what a line asks
abbrev pub EndsReplaying : Recorded → Replay → CommandFailure → Type 0
EndsReplaying r asked f =
    IsRefusedRun asked.workers r f ⊎ ((fault : NamingFault) × IsSeeing asked r.image r.pages (Some fault) × IsRefusedFor fault asked.workers r f)

-- and why it has no hits
abbrev pub EndsWatching : Recorded → Watch → CommandFailure → Type 0
EndsWatching r asked f =
    IsRefusedRun asked.workers r f
    ⊎ ((fault : NamingFault) × IsMissing r.image (first_missing r.image (names_watched asked)) (Some fault) × IsRefusedFor fault asked.workers r f)

-- ---- executions

-- the question to an execution is refused: for rounds, then for the number of workers, then as its check is, or for what is wrong with
-- bytes; or memory was
pub record IsRefusedThere (rounds : Bool) (workers : ℕ) (Last : CommandFailure → Type 0) (f : CommandFailure) : Type 0 where
  pub of_rounds : rounds ≡ true → (f ≡ NoRounds)
  pub of_workers : rounds ≡ false → AreNoWorkers workers → f ≡ Refused refusals.WorkersOutOfRange
  pub of_rest : rounds ≡ false → AreWorkers workers → ((e : RunError) × (f ≡ Refused e)) ⊎ Last f

-- why an execution that was checked has no answer
abbrev pub EndsSeeing : Executed → Replay → CommandFailure → Type 0
EndsSeeing file asked f = (f ≡ out_of_memory) ⊎ ((fault : NamingFault) × IsSeeing asked file.image file.pages (Some fault) × (f ≡ Naming fault))

-- and why it has no hits
abbrev pub EndsLooking : Executed → Watch → CommandFailure → Type 0
EndsLooking file asked f = IsUnnamed file.image (names_watched asked) f

-- why the execution that a text says has no answer
abbrev pub EndsExecution : List ℕ → Bool → ℕ → (Executed → CommandFailure → Type 0) → CommandFailure → Type 0
EndsExecution text rounds workers Last f = IsNoExecution text f ⊎ ((file : Executed) × IsExecution text file × IsRefusedThere rounds workers (Last file) f)

abbrev pub EndsExecutionReplay : List ℕ → Replay → CommandFailure → Type 0
EndsExecutionReplay text asked f = EndsExecution text (is_some asked.round) asked.workers (λ file. EndsSeeing file asked) f

abbrev pub EndsExecutionWatch : List ℕ → Watch → CommandFailure → Type 0
EndsExecutionWatch text asked f = EndsExecution text (is_some asked.from || is_some asked.to) asked.workers (λ file. EndsLooking file asked) f

-- ---- what a file holds

abbrev pub EndsReplayOf : Past → Replay → CommandFailure → Type 0
EndsReplayOf (Recording r) asked f = EndsReplaying r asked f
EndsReplayOf (Execution text) asked f = EndsExecutionReplay text.items asked f

abbrev pub EndsWatchOf : Past → Watch → CommandFailure → Type 0
EndsWatchOf (Recording r) asked f = EndsWatching r asked f
EndsWatchOf (Execution text) asked f = EndsExecutionWatch text.items asked f

-- why `replay` ends without an answer: nothing was read of the file, what it holds has none, or the output failed
abbrev pub EndsReplay : FileRelations → Replay → Type 0 → CommandFailure → Type 0
EndsReplay files asked failed f =
    EndsReading files asked.recording.now f ⊎ IsOutput failed f ⊎ ((past : Past) × HoldsPast files asked.recording.now past × EndsReplayOf past asked f)

-- and `watch`
abbrev pub EndsWatch : FileRelations → Watch → Type 0 → CommandFailure → Type 0
EndsWatch files asked failed f =
    EndsReading files asked.recording.now f ⊎ IsOutput failed f ⊎ (f ≡ out_of_memory) ⊎ ((past : Past) × HoldsPast files asked.recording.now past × EndsWatchOf past asked f)
