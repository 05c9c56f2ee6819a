-- With which status a command ends: with that of what its crate promises, or refused. `f` says what files hold, `weakly` what weak hunts
-- make, and `fences` what searches for missing fences find.
use Rattle.std.specs.Prelude.{◌≡◌, ◌⊎◌, ⊤, ℕ, List}
use Rattle.all_commands.specs.Asked.{AskedSearch as AskedEndings}
use Rattle.all_commands.specs.Status.{all_status}
use Rattle.clap.specs.Words.{IsAmong, subcommand_of}
use Rattle.clap.specs.declared.error.kind.ErrorKind.TheVariants.{DisplayHelp, DisplayVersion}
use Rattle.command_line.specs.Asking.{asked_by_options}
use Rattle.command_line.specs.Faults.{line_fault}
use Rattle.command_line.specs.Reading.{HoldsLine}
use Rattle.command_line.specs.declared.settings.Command.{Command}
use Rattle.command_options.specs.Options.{dethart_app}
use Rattle.command_line.specs.declared.settings.Command.TheVariants.{All, Check, Compare, Draw, Execution, Fences, Gdb, Hunt, Merge, Migrate, Order, Plan, Record, Replay, Run, Shrink, Trace, Watch}
use Rattle.debug_commands.specs.Debugged.{Dialogue, IsDebugged}
use Rattle.emulation.specs.Showing.{end_of}
use Rattle.execution_commands.specs.Checks.{CheckedFile, checked_in}
use Rattle.execution_commands.specs.Verdicts.{verdict_status}
use Rattle.hunt_commands.specs.Asked.{AskedHunt}
use Rattle.hunt_commands.specs.Merges.{AskedMerge}
use Rattle.hunt_commands.specs.Plans.{IsAskedPlan}
use Rattle.hunt_commands.specs.Relations.{HuntRelation}
use Rattle.hunt_commands.specs.Shrinks.{AskedShrink}
use Rattle.hunt_commands.specs.Status.{hunt_status}
use Rattle.hunt_comparison.specs.Compares.{AskedComparison}
use Rattle.hunt_comparison.specs.Status.{compare_status}
use Rattle.machine.specs.Runs.{after_run}
use Rattle.past_commands.specs.Replays.{AskedReplay}
use Rattle.past_commands.specs.Watched.{watched_status}
use Rattle.past_commands.specs.Watches.{AskedWatch}
use Rattle.program_files.specs.Asked.{AskedRun}
use Rattle.program_files.specs.declared.exit_status.ExitStatus.{ExitStatus}
use Rattle.program_files.specs.declared.exit_status.ExitStatus.TheVariants.{BadLine, Done, Refused}
use Rattle.program_files.specs.Relations.{FileRelations}
use Rattle.recording.specs.Recorded.{Recorded}
use Rattle.run_commands.specs.Printed.{run_status}
use Rattle.run_commands.specs.Reading.{HoldsRecording}
use Rattle.view_commands.specs.Drawings.{AskedDraw, Draws}
use Rattle.weak_commands.specs.Asked.{AskedSearch}
use Rattle.weak_commands.specs.AskedExecutions.{AskedExecution}
use Rattle.weak_commands.specs.Relations.{FenceRelations}
use Rattle.weak_commands.specs.Status.{fences_status}

-- a command was done as is promised, or refused
abbrev pub OrRefused : (ExitStatus → Type 0) → ExitStatus → Type 0
OrRefused IsDone status = IsDone status ⊎ (status ≡ Refused)

-- the command was done, and this is the status of that
abbrev pub IsDoneBy : FileRelations → HuntRelation → FenceRelations → Command → ExitStatus → Type 0
IsDoneBy f weakly fences (Run asked) status = (a : AskedRun f asked.run) × (status ≡ run_status asked.strict (end_of (after_run a.made.settings a.image a.input a.made.plan).state.harts))
IsDoneBy f weakly fences (Order run) status = AskedRun f run × (status ≡ Done)
IsDoneBy f weakly fences (Trace run) status = AskedRun f run × (status ≡ Done)
IsDoneBy f weakly fences (Record asked) status = AskedRun f asked.run × (status ≡ Done)
IsDoneBy f weakly fences (Migrate asked) status = ((r : Recorded) × HoldsRecording f asked.recording.now r) × (status ≡ Done)
IsDoneBy f weakly fences (Replay asked) status = (a : AskedReplay f asked) × (status ≡ a.answer.status)
IsDoneBy f weakly fences (Watch asked) status = (a : AskedWatch f asked) × (status ≡ watched_status a.watched)
IsDoneBy f weakly fences (Gdb asked) status = (w : Dialogue) × IsDebugged f asked.recording.now status w
IsDoneBy f weakly fences (Hunt asked) status = (a : AskedHunt f weakly asked) × (status ≡ hunt_status asked.fail_on a.made.rows)
IsDoneBy f weakly fences (Shrink asked) status = AskedShrink f asked × (status ≡ Done)
IsDoneBy f weakly fences (Merge asked) status = (a : AskedMerge f asked) × (status ≡ hunt_status asked.fail_on a.made.table.rows.items)
IsDoneBy f weakly fences (Compare asked) status = (a : AskedComparison f asked) × (status ≡ compare_status a.made.olds a.made.news)
IsDoneBy f weakly fences (Plan asked) status = ((text : List ℕ) × IsAskedPlan asked text) × (status ≡ Done)
IsDoneBy f weakly fences (Fences asked) status = (a : AskedSearch f fences asked) × (status ≡ fences_status asked.fail_on a.made.table)
IsDoneBy f weakly fences (All asked) status = (a : AskedEndings f (λ _ _ _ _ _. ⊤) asked) × (status ≡ all_status a.made.table)
IsDoneBy f weakly fences (Draw asked) status = (a : AskedDraw f asked) × (old : List ℕ) × (new : List ℕ) × Draws asked a.image a.input a.text a.budget old new status
IsDoneBy f weakly fences (Execution asked) status = AskedExecution f (λ _ _ _ _ _ _. ⊤) asked × (status ≡ Done)
IsDoneBy f weakly fences (Check asked) status = (a : CheckedFile f asked.file.now) × (status ≡ verdict_status (checked_in a).finding)

-- a status that the command ends with
abbrev pub IsStatusOf : FileRelations → HuntRelation → FenceRelations → Command → ExitStatus → Type 0
IsStatusOf f weakly fences command status = OrRefused (IsDoneBy f weakly fences command) status

-- the words ask for the help, or for the version
abbrev pub AskForText : List (List ℕ) → Type 0
AskForText words = IsAmong DisplayHelp (line_fault words) ⊎ IsAmong DisplayVersion (line_fault words)

-- a line is that of a command, or it asks for a text, which was printed then
abbrev pub EndsLine : FileRelations → HuntRelation → FenceRelations → List (List ℕ) → ExitStatus → Type 0
EndsLine f weakly fences words status =
    ((c : Command) × HoldsLine (subcommand_of dethart_app (asked_by_options words)) c × IsStatusOf f weakly fences c status)
    ⊎ (AskForText (asked_by_options words) × (status ≡ Done))

-- a status that the program ends with: that of a line, or of one that is bad or refused
abbrev pub EndsProgram : FileRelations → HuntRelation → FenceRelations → ExitStatus → Type 0
EndsProgram f weakly fences status =
    ((words : List (List ℕ)) × EndsLine f weakly fences words status) ⊎ (status ≡ BadLine) ⊎ (status ≡ Refused)
