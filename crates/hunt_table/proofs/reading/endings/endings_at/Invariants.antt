use Rattle.std.proofs.Common.{◌≡◌, ◌-◌, List, []}
use Rattle.hunt_table.specs.declared.seen_range.SeenRange.{SeenRange}
use Rattle.plan_hunt.specs.declared.row.Row.{Row}
use Rattle.hunt_table.specs.Reading.{ending_at, endings_at, is_ending_line, last_ranges, rows_of}
use Rattle.hunt_table.proofs.Loops.{Goes}
use Rattle.hunt_table.proofs.reading.endings.endings_at.Given as goal

-- the endings so far gave these rows and ranges
abbrev pub invariant-endings : goal.invariant-endings
invariant-endings l =
    (front : List (Row × List SeenRange)) × (l.rows.items ≡ rows_of front) × (l.ranges.items ≡ last_ranges [] front)
    × Goes is_ending_line ending_at (l.count - l.counter) l.rest front (endings_at l.count l.text)
