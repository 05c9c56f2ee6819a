-- The exit statuses of the program.
use Rattle.std.specs.Prelude.{ℕ}
use Rattle.program_files.specs.declared.exit_status.ExitStatus.{ExitStatus}
use Rattle.program_files.specs.declared.exit_status.ExitStatus.TheVariants.{Done, Refused, BadLine, Differs, Doubtful, Lacking, Incomplete}

-- the number that the host gets
abbrev pub status_number : ExitStatus → ℕ
status_number Done = 0
status_number Refused = 1
status_number BadLine = 2
status_number Differs = 3
status_number Doubtful = 4
status_number Lacking = 5
status_number Incomplete = 6
