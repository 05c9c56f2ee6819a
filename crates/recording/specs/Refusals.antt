-- The numbers of refusals, as the program prints them.
use Rattle.std.specs.Prelude.{ℕ}
use Rattle.recording.specs.declared.cause.Cause.TheVariants.{NotARecording, Version, Cut, OutOfRange, BytesLeft}
use Rattle.recording.specs.declared.cause.ReadError.{ReadError}
use Rattle.recording.specs.declared.cause.ReadError.TheVariants.{Refused, OutOfMemory}

abbrev pub refusal_number : ReadError → ℕ
refusal_number (Refused NotARecording) = 41
refusal_number (Refused Version) = 42
refusal_number (Refused Cut) = 43
refusal_number (Refused OutOfRange) = 44
refusal_number (Refused BytesLeft) = 45
refusal_number OutOfMemory = 20
