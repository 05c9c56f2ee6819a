-- The numbers of refusals of a text and of a merge, as the program prints them.
use Rattle.std.specs.Prelude.{ℕ}
use Rattle.host_io.specs.RunErrors.{number_of}
use Rattle.host_io.specs.declared.error.RunError.TheVariants as refusals
use Rattle.hunt_table.specs.declared.read_error.ReadError.{ReadError}
use Rattle.hunt_table.specs.declared.read_error.ReadError.TheVariants as causes
use Rattle.hunt_table.specs.declared.merge_error.MergeError.{MergeError}
use Rattle.hunt_table.specs.declared.merge_error.MergeError.TheVariants.{Run, NotATable, Apart, OtherProgram}

abbrev pub read_number : ReadError → ℕ
read_number causes.NotATable = 71
read_number causes.OutOfMemory = 20

abbrev pub merge_number : MergeError → ℕ
merge_number (Run e) = number_of e
merge_number NotATable = 71
merge_number Apart = 72
merge_number OtherProgram = 78

-- what refuses a text refuses the merge
abbrev pub refusal_of : ReadError → MergeError
refusal_of causes.NotATable = NotATable
refusal_of causes.OutOfMemory = Run refusals.OutOfMemory
