use Rattle.std.proofs.Common.{◌≡◌, ◌++◌, drop}
use Rattle.hunt_table.specs.Text.{quoted}
use Rattle.hunt_table.proofs.writing.endings.add_quoted.Given as goal

abbrev pub invariant-loop-byte : goal.invariant-loop-byte
invariant-loop-byte l = l.line ++ quoted (drop l.byte-index l.bytes) ≡ l.fn.line ++ quoted l.bytes
