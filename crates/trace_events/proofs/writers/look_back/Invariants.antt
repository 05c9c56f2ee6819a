use Rattle.std.proofs.Common.{◌≡◌, ◌≤◌}
use Rattle.round_schedule.specs.Positions.{event}
use Rattle.byte_sources.specs.Sources.{gives, last_below}
use Rattle.trace_events.proofs.writers.look_back.Given as goal

-- none of those that were looked at gives the byte
abbrev pub invariant-loop-before : goal.invariant-loop-before
invariant-loop-before l =
    (l.before ≤ l.index)
    × (last_below (gives l.events (event l.events l.index) l.byte) l.index ≡ last_below (gives l.events (event l.events l.index) l.byte) l.before)

abbrev pub decreases-loop-before : goal.decreases-loop-before
decreases-loop-before l = l.before
