use Rattle.std.proofs.Common.{◌≡◌, ◌++◌, take, drop}
use Rattle.report.specs.Report.{events_text}
use Rattle.report.proofs.piece.add_events.Given as goal

abbrev pub invariant-loop-event : goal.invariant-loop-event
invariant-loop-event l = record {
  line : l.line ≡ events_text l.yielded;
  left : l.yielded ++ take l.event-iterator.n l.event-iterator.iter ≡ take 1024 (drop l.start l.trace.events);
}
