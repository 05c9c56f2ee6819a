use Rattle.std.proofs.Common.{◌≡◌, length}
use Rattle.hunt_table.specs.Reading.{number_after, number_at}
use Rattle.hunt_table.proofs.reading.cursor.number_at.Given as goal

abbrev pub invariant-digits : goal.invariant-digits
invariant-digits l = number_after l.number l.rest ≡ number_at l.text

abbrev pub decreases-digits : goal.decreases-digits
decreases-digits l = length l.rest
