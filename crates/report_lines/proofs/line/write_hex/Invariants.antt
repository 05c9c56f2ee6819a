use Rattle.std.proofs.Common.{◌≡◌, ◌≤◌, ◌++◌, drop, length}
use Rattle.report_lines.specs.Text.{hex}
use Rattle.report_lines.proofs.line.write_hex.Given as goal

abbrev pub invariant-loop-index : goal.invariant-loop-index
invariant-loop-index l = record {
  size : length l.buffer ≡ length l.fn.buffer;
  within : l.index ≤ length l.fn.buffer;
  digits : hex (length l.fn.buffer) l.number ≡ hex l.index l.rest ++ drop l.index l.buffer;
}

abbrev pub decreases-loop-index : goal.decreases-loop-index
decreases-loop-index l = l.index
