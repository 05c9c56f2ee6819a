-- With which status a search for all endings ends.
use Rattle.std.specs.Prelude.{if◌then◌else◌}
use Rattle.std.specs.List.{list_any}
use Rattle.endings_table.specs.Endings.{is_bad}
use Rattle.endings_table.specs.declared.others.Others.{Others}
use Rattle.endings_table.specs.declared.others.Others.TheVariants.{Absent, Possible}
use Rattle.endings_table.specs.declared.table.EndingsTable.{EndingsTable}
use Rattle.program_files.specs.declared.exit_status.ExitStatus.{ExitStatus}
use Rattle.program_files.specs.declared.exit_status.ExitStatus.TheVariants.{Done, Doubtful, Incomplete}

-- 0 where there are no others, and 6 where there may be some
abbrev pub others_status : Others → ExitStatus
others_status Absent = Done
others_status (Possible why) = Incomplete

-- 4 where an ending is bad, whatever else is told
abbrev pub all_status : EndingsTable → ExitStatus
all_status t = if list_any is_bad t.endings.items then Doubtful else others_status t.others
