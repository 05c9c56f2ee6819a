use Rattle.std.proofs.Common.{◌≡◌, take, fold}
use Rattle.hunt_table.specs.Reading.{with_hex_digit}
use Rattle.hunt_table.proofs.reading.cursor.hex_at.Given as goal

abbrev pub invariant-loop-digit : goal.invariant-loop-digit
invariant-loop-digit l = l.number ≡ fold with_hex_digit 0 (take l.digit-index l.digit-items)
