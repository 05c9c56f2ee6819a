-- With which status a hunt ends.
use Rattle.std.specs.Prelude.{◌||◌, Bool, false, true, not, List}
use Rattle.command_line.specs.declared.settings.FailOn.{FailOn}
use Rattle.command_line.specs.declared.settings.FailOn.TheVariants.{Bad, Differ, Either, Never}
use Rattle.hunter.specs.Hunts.{all_end_well, is_one_exit}
use Rattle.plan_hunt.specs.declared.row.Row.{Row}
use Rattle.program_files.specs.declared.exit_status.ExitStatus.{ExitStatus}
use Rattle.program_files.specs.declared.exit_status.ExitStatus.TheVariants.{Done, Doubtful}

-- a hunt with this table is doubtful: there are several endings or one without an exit, or a bad one, or one of the two
abbrev pub is_doubtful : FailOn → List Row → Bool
is_doubtful Differ rows = not (is_one_exit rows)
is_doubtful Bad rows = not (all_end_well rows)
is_doubtful Either rows = not (is_one_exit rows) || not (all_end_well rows)
is_doubtful Never rows = false

abbrev pub doubt_status : Bool → ExitStatus
doubt_status true = Doubtful
doubt_status false = Done

-- 4 where the table is doubtful
abbrev pub hunt_status : FailOn → List Row → ExitStatus
hunt_status fail_on rows = doubt_status (is_doubtful fail_on rows)
