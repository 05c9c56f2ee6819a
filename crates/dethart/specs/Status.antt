-- The exit status of a line that comes to no command.
use Rattle.dethart.specs.declared.failure.Failure.{Failure}
use Rattle.dethart.specs.declared.failure.Failure.TheVariants.{Line, NotText, ReaderGone, Refused}
use Rattle.program_files.specs.declared.exit_status.ExitStatus.{ExitStatus}
use Rattle.program_files.specs.declared.exit_status.ExitStatus.TheVariants.{BadLine, Refused as Refusal}

-- a bad command line, and else a refusal
abbrev pub status_of : Failure → ExitStatus
status_of (Refused error) = Refusal
status_of ReaderGone = Refusal
status_of (Line error) = BadLine
status_of NotText = BadLine
