use Rattle.std.proofs.Common.{◌-◌, true}
use Rattle.hunt_table.specs.Reading.{quoted_at, quoted_byte_at}
use Rattle.hunt_table.proofs.Loops.{Goes}
use Rattle.hunt_table.proofs.reading.output.quoted_at.Given as goal

abbrev pub invariant-bytes : goal.invariant-bytes
invariant-bytes l = Goes (λ _. true) quoted_byte_at (l.count - l.counter) l.rest l.bytes.items (quoted_at l.count l.text)
