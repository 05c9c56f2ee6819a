use Rattle.std.proofs.Common.{◌≡◌, ◌<◌, ◌^◌, drop}
use Rattle.execution_file.specs.Numerals.{value_from, value_of}
use Rattle.execution_file.proofs.numbers.value_of.Given as goal

abbrev pub invariant-loop-digit : goal.invariant-loop-digit
invariant-loop-digit l = (l.value < 2 ^ 64) × (value_from l.value (drop l.digit-index l.digits) ≡ value_of l.digits)
