use Rattle.std.proofs.Common.{◌≡◌, ◌==◌, take}
use Rattle.report_lines.specs.Rows.{all_zero}
use Rattle.report_lines.proofs.rows.is_zero.Given as goal

abbrev pub invariant-loop-byte : goal.invariant-loop-byte
invariant-loop-byte l = (l.joined == 0) ≡ all_zero (take l.byte-index l.bytes)
