use Rattle.std.proofs.Common.{◌≡◌, ◌-◌, ◌++◌}
use Rattle.hunt_table.specs.Reading.{bytes_at}
use Rattle.hunt_table.proofs.reading.seen.add_bytes.Given as goal

abbrev pub invariant-bytes : goal.invariant-bytes
invariant-bytes l = l.bytes.items ++ bytes_at (l.count - l.counter) l.rest ≡ l.fn.bytes.items ++ bytes_at l.count l.text
