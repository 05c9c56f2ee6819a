use Rattle.std.proofs.Common.{List, ap, inr, refl}
use Rattle.std.proofs.lemmas.Result.{err_from_is_err_and}
use Rattle.round_schedule.specs.declared.event.Event.{Event}
use Rattle.round_planner.specs.Settings.{IsReason, settings_fault}
use Rattle.host_io.proofs.Answered.{fault_or, of_text, refused_first}
use Rattle.trace_events.specs.TraceEvents.{trace_events_text}
use Rattle.drawing.proofs.tracing.trace_run.Goals as goal

pub returns-in_err-trace-clause-writes : goal.returns-in_err-trace-clause-writes
returns-in_err-trace-clause-writes g c =
    let s = c.args.settings.now in
    let p = err_from_is_err_and c.from_residual.result c.from_residual.ensures.1 in
    rw (p.1, p.2)
    (refused_first _ (fault_or (settings_fault s) (IsReason s c.args.files.now.image.now) _ c.in_err-trace.ensures.in_order.settings c.in_err-trace.ensures.errors) refl)

pub returns-clause-writes : goal.returns-clause-writes
returns-clause-writes g c =
    let run = c.in_ok-trace.ensures.events in
    let text = ap (λ (t : List Event). trace_events_text c.args.settings.now.harts t) run.2 in
    of_text _ c.write_trace_events.result (record { plan = run.0; planned = run.1; is_text = text }) c.write_trace_events.ensures

pub returns-clause-waits : goal.returns-clause-waits
returns-clause-waits g c = inr c.in_ok-trace.ensures.known
