use Rattle.std.proofs.Common.{arith}
use Rattle.report_lines.proofs.Decimals.{at_most_20_digits}
use Rattle.report_lines.proofs.line.Line.decimal.Goals as goal

pub write_digits-start-requires : goal.write_digits-start-requires
write_digits-start-requires c = (at_most_20_digits c.args.number (omega arith), omega arith)
