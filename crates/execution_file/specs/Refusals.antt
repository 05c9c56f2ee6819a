-- The numbers of refusals, as the program prints them.
use Rattle.std.specs.Prelude.{ℕ}
use Rattle.execution_file.specs.declared.cause.Cause.{Cause}
use Rattle.execution_file.specs.declared.cause.Cause.TheVariants.{NotAnExecution, Version, Cut, Malformed, OutOfRange, TextLeft, TooManySteps}
use Rattle.execution_file.specs.declared.cause.ReadError.{ReadError}
use Rattle.execution_file.specs.declared.cause.ReadError.TheVariants.{Refused, OutOfMemory}

abbrev pub cause_number : Cause → ℕ
cause_number NotAnExecution = 81
cause_number Version = 82
cause_number Cut = 83
cause_number Malformed = 84
cause_number OutOfRange = 85
cause_number TextLeft = 86
cause_number TooManySteps = 89

abbrev pub refusal_number : ReadError → ℕ
refusal_number (Refused r) = cause_number r.cause
refusal_number OutOfMemory = 20
