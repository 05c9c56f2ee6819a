use Rattle.std.proofs.Common.{◌≡◌, ◌++◌, List, None, Ok, ℕ}
use Rattle.report.specs.Pending.{Wrote, way}
use Rattle.trace_events.specs.TraceEvents.{entries_text}
use Rattle.trace_events.specs.Writers.{Indexes}
use Rattle.trace_events.proofs.Entries.{entries_at}
use Rattle.trace_events.proofs.writing.put_entries.Given as goal

-- the text so far, and what is left of it, are the whole; and the stores so far are indexed
abbrev pub invariant-loop-index : goal.invariant-loop-index
invariant-loop-index g l =
    (text : List ℕ)
    × (text ++ entries_at l.events l.index ≡ entries_text l.events 0 None l.events)
    × Wrote text (way (g.S.Sink.took l.fn.out) (g.S.Sink.failures l.fn.out) l.fn.line) (Ok tt) (way (g.S.Sink.took l.out) (g.S.Sink.failures l.out) l.line)
    × Indexes l.events l.index l.writers
