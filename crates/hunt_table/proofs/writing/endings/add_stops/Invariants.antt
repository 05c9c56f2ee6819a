use Rattle.std.proofs.Common.{◌≡◌, ◌++◌, drop}
use Rattle.hunt_table.specs.Text.{stop_lines}
use Rattle.hunt_table.proofs.writing.endings.add_stops.Given as goal

abbrev pub invariant-loop-hart : goal.invariant-loop-hart
invariant-loop-hart l = l.line ++ stop_lines l.hart (drop l.hart l.stops) ≡ l.fn.line ++ stop_lines 0 l.stops
