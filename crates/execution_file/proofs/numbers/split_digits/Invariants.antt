use Rattle.std.proofs.Common.{◌-◌, length}
use Rattle.execution_file.proofs.Numerals.{Splits}
use Rattle.execution_file.proofs.numbers.split_digits.Given as goal

abbrev pub decreases-loop-count : goal.decreases-loop-count
decreases-loop-count l = length l.bytes - l.count

abbrev pub invariant-loop-count : goal.invariant-loop-count
invariant-loop-count l = Splits l.bytes l.count
