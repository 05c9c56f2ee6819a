use Rattle.std.proofs.Common.{◌≡◌, ℕ, ◌/◌, ◌≤◌}
use Rattle.round_schedule.specs.Positions.{event}
use Rattle.byte_sources.specs.Sources.{gives, last_below}
use Rattle.trace_events.specs.Writers.{after_last, stores_word}
use Rattle.trace_events.proofs.writers.Writers.walk.Given as goal

-- the next store is the last to the word before an index from which on none gives the byte
abbrev pub invariant-loop-next : goal.invariant-loop-next
invariant-loop-next l =
    (b : ℕ)
    × (l.next ≤ l.index)
    × (b ≤ l.index)
    × (l.next ≡ after_last (stores_word l.events (l.byte / 8)) b)
    × (last_below (gives l.events (event l.events l.index) l.byte) l.index ≡ last_below (gives l.events (event l.events l.index) l.byte) b)

abbrev pub decreases-loop-next : goal.decreases-loop-next
decreases-loop-next l = l.next
