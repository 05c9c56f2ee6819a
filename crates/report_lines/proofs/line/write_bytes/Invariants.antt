use Rattle.std.proofs.Common.{◌≡◌, ◌*◌, take, length}
use Rattle.report_lines.specs.Text.{bytes_text}
use Rattle.report_lines.proofs.line.write_bytes.Given as goal

abbrev pub invariant-loop-index : goal.invariant-loop-index
invariant-loop-index l = record {
  size : length l.buffer ≡ length l.fn.buffer;
  text : take (2 * l.index) l.buffer ≡ bytes_text (take l.index l.bytes);
}
