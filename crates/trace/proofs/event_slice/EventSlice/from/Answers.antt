use Rattle.std.proofs.Common.{◌∙◌, ap, drop, sym}
use Rattle.std.proofs.lemmas.List.{drop-map}
use Rattle.round_schedule.specs.Events.{event_of, events_of}
use Rattle.trace.specs.LentLogs.{accesses_lent}
use Rattle.trace.specs.declared.event_slice.EventSlice.{EventSlice}
use Rattle.trace.specs.Chunks.{slice_events}
use Rattle.trace.proofs.event_slice.EventSlice.from.Goals as goal

pub returns-in-Log : goal.returns-in-Log
returns-in-Log c =
    let l = c.in-Log.log in
    ap (events_of l.round l.hart l.phase) c.from.ensures ∙ sym (drop-map (event_of l.round l.hart l.phase) c.args.index (accesses_lent l.accesses))
    ∙ ap (λ (r : EventSlice). drop c.args.index (slice_events r)) (sym c.in-Log.is)
