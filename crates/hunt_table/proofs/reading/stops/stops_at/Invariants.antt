use Rattle.std.proofs.Common.{◌-◌, length}
use Rattle.hunt_table.specs.Reading.{is_stop_line, stop_line_at, stops_at}
use Rattle.hunt_table.proofs.Loops.{Goes}
use Rattle.hunt_table.proofs.reading.stops.stops_at.Given as goal

abbrev pub invariant-lines : goal.invariant-lines
invariant-lines l = Goes is_stop_line stop_line_at (length l.text - l.counter) l.rest l.stops.items (stops_at l.text)
