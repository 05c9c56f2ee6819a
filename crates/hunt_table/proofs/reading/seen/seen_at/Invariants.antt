use Rattle.std.proofs.Common.{◌≡◌, ℕ, ◌-◌, List, length}
use Rattle.hunt_table.specs.declared.seen_range.SeenRange.{SeenRange}
use Rattle.hunt_table.specs.Reading.{bytes_of, is_seen_line, ranges_of, seen_at, seen_line_at}
use Rattle.hunt_table.proofs.Loops.{Goes}
use Rattle.hunt_table.proofs.reading.seen.seen_at.Given as goal

-- the lines so far gave these ranges and bytes
abbrev pub invariant-lines : goal.invariant-lines
invariant-lines l =
    (front : List (SeenRange × List ℕ)) × (l.seen.ranges.items ≡ ranges_of front) × (l.seen.bytes.items ≡ bytes_of front)
    × Goes is_seen_line seen_line_at (length l.text - l.counter) l.rest front (seen_at l.text)
