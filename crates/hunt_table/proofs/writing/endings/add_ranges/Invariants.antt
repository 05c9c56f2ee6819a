use Rattle.std.proofs.Common.{◌≡◌, ◌++◌, drop}
use Rattle.hunt_table.specs.Text.{seen_lines}
use Rattle.hunt_table.proofs.writing.endings.add_ranges.Given as goal

abbrev pub invariant-loop-range : goal.invariant-loop-range
invariant-loop-range l = l.line ++ seen_lines (drop l.range-index l.ranges) l.rest ≡ l.fn.line ++ seen_lines l.ranges l.seen
