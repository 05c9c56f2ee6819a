-- What `record` and `migrate` write, and why they end without it.
use Rattle.std.specs.Prelude.{◌≡◌, ◌⊎◌, ℕ, Bool, false, true, List}
use Rattle.command_line.specs.declared.settings.Migrate.{Migrate}
use Rattle.command_line.specs.declared.settings.Record.{Record}
use Rattle.round_planner.specs.declared.settings.Settings.{Settings}
use Rattle.program_files.specs.Asked.{IsFileOfRun, LacksSpurious, RefusedRun}
use Rattle.program_files.specs.Failures.{IsFileFailure, IsUnwritten}
use Rattle.program_files.specs.Relations.{FileRelations}
use Rattle.program_files.specs.Needed.{Needs}
use Rattle.run_commands.specs.Reading.{EndsReading}
use Rattle.program_files.specs.declared.failure.CommandFailure.{CommandFailure}
use Rattle.recording.specs.Grammar.{recording}
use Rattle.recording.specs.Recorded.{Recorded}
use Rattle.replayer.specs.Replayed.{recorded_of}
use Rattle.round_planner.specs.Quotas.{Planned}

-- so many rounds of a run are recorded: all that it is asked for, or as many as it needs
abbrev pub AreRecorded : Bool → Settings → List ℕ → List ℕ → ℕ → Type 0
AreRecorded false s image input n = n ≡ s.rounds
AreRecorded true s image input n = Needs s image input n

-- the settings of a run of so many rounds
abbrev pub for_rounds : ℕ → Settings → Settings
for_rounds n s = record s { rounds = n }

-- the text of the recording of a run, with registers after each round that is a multiple of `every`
abbrev pub recorded_text : Settings → ℕ → List ℕ → List ℕ → Planned → List ℕ
recorded_text s every image input plan = recording.spelled (recorded_of s every image input plan)

-- the text of a recording in the newest version
abbrev pub migrated_text : Recorded → List ℕ
migrated_text r = recording.spelled (record r { version = 2 })

-- a file of the run couldn't be read, or the run is refused; there is no output that could fail
abbrev pub IsUnrecorded : FileRelations → Record → CommandFailure → Type 0
IsUnrecorded files asked f =
    IsFileFailure files (IsFileOfRun asked.run) (LacksSpurious files asked.run.program) f ⊎ RefusedRun files asked.run ⊥ f

-- why `record` ends without a recording: the run isn't recorded, or its recording couldn't be written
abbrev pub EndsRecord : FileRelations → (List ℕ → Type 0) → Record → CommandFailure → Type 0
EndsRecord files wasnt_given asked f = IsUnrecorded files asked f ⊎ IsUnwritten wasnt_given asked.out.now f

-- why `migrate` does: no recording was read, or the new one couldn't be written
abbrev pub EndsMigrate : FileRelations → (List ℕ → Type 0) → Migrate → CommandFailure → Type 0
EndsMigrate files wasnt_given asked f = EndsReading files asked.recording.now f ⊎ IsUnwritten wasnt_given asked.out.now f
