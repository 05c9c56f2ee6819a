use Rattle.std.proofs.Common.{◌≡◌, ◌++◌, List, Ok, ℕ}
use Rattle.report.specs.Pending.{Wrote, way}
use Rattle.report.specs.Report.{events_text}
use Rattle.report.proofs.state.put_events.Given as goal

abbrev pub invariant-loop-event : goal.invariant-loop-event
invariant-loop-event g l =
    (text : List ℕ)
    × (text ++ events_text l.event-iterator ≡ events_text l.trace.events)
    × Wrote text (way (g.S.Sink.took l.fn.out) (g.S.Sink.failures l.fn.out) l.fn.line) (Ok tt) (way (g.S.Sink.took l.out) (g.S.Sink.failures l.out) l.line)
