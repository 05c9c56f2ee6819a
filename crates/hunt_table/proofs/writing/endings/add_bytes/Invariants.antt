use Rattle.std.proofs.Common.{◌≡◌, ◌++◌, drop}
use Rattle.report_lines.specs.Text.{bytes_text}
use Rattle.hunt_table.proofs.writing.endings.add_bytes.Given as goal

abbrev pub invariant-loop-byte : goal.invariant-loop-byte
invariant-loop-byte l = l.line ++ bytes_text (drop l.byte-index l.bytes) ≡ l.fn.line ++ bytes_text l.bytes
