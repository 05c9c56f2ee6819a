use Rattle.std.proofs.Common.{◌≡◌, drop}
use Rattle.round_planner.specs.Reading.{read_from, start}
use Rattle.round_planner.proofs.reader.read_rows.Given as goal

-- what is left is read on from here
abbrev pub invariant-loop-byte : goal.invariant-loop-byte
invariant-loop-byte l = read_from l.reader (drop l.byte-index l.text) ≡ read_from start l.text
