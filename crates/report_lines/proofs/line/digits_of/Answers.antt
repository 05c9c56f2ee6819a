use Rattle.std.proofs.Common.{arith}
use Rattle.report_lines.proofs.Digits.{pairs_at}
use Rattle.report_lines.proofs.line.digits_of.Goals as goal

pub returns-clause-high : goal.returns-clause-high
returns-clause-high c = let both = pairs_at c.args.byte (omega (arith, c.ranges.byte.fits)) in both.0

pub returns-clause-low : goal.returns-clause-low
returns-clause-low c = let both = pairs_at c.args.byte (omega (arith, c.ranges.byte.fits)) in both.1
