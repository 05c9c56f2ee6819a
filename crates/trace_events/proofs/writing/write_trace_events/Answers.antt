use Rattle.std.proofs.Common.{◌∙◌, List, subst, sym}
use Rattle.host_io.specs.Taken.{WritesText}
use Rattle.round_schedule.specs.declared.event.Event.{Event}
use Rattle.trace.specs.Traced.{IsTrace}
use Rattle.report.specs.Pending.{way}
use Rattle.trace_events.specs.TraceEvents.{trace_events_text}
use Rattle.report.proofs.Writing.{writes_of}
use Rattle.trace_events.proofs.writing.write_trace_events.Goals as goal

pub put_trace-requires-clause-none : goal.put_trace-requires-clause-none
put_trace-requires-clause-none g c = c.in_ok-writers.ensures c.deref.result.now

pub put_trace-requires-clause-sound : goal.put_trace-requires-clause-sound
put_trace-requires-clause-sound g c = subst IsTrace (sym c.deref.ensures.value) c.in_ok-events.ensures.sound

pub returns : goal.returns
returns g c =
    let before = way (g.S.Sink.took c.args.out.now) (g.S.Sink.failures c.args.out.now) c.new-line.result in
    let after = way (g.S.Sink.took c.put_trace.new.out) (g.S.Sink.failures c.put_trace.new.out) c.put_trace.new.line in
    let same = c.deref.ensures.value ∙ c.in_ok-events.ensures.events in
    subst (λ (es : List Event). WritesText (trace_events_text c.args.harts es) (g.S.Sink.took c.args.out.now) (g.S.Sink.failures c.args.out.now) c.put_trace.result (g.S.Sink.took c.put_trace.new.out) (g.S.Sink.failures c.put_trace.new.out)) same
    (writes_of _ before after c.put_trace.result c.new-line.ensures c.put_trace.ensures.wrote c.put_trace.ensures.empty)
