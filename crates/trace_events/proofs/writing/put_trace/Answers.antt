use Rattle.std.proofs.Common.{◌≡◌, Err, rules}
use Rattle.report.specs.Pending.{way}
use Rattle.trace_events.specs.TraceEvents.{trace_events_text}
use Rattle.report.proofs.Writing.{passed_on, wrote_part, wrote_then}
use Rattle.trace_events.proofs.writing.put_trace.Goals as goal

pub returns-in_err-put_head-clause-wrote : goal.returns-in_err-put_head-clause-wrote
unfolding trace_events_text
returns-in_err-put_head-clause-wrote g c =
    let r : c.from_residual.result ≡ Err c.in_err-put_head.field-0.0 = search rules in
    passed_on _ (way (g.S.Sink.took c.args.out.now) (g.S.Sink.failures c.args.out.now) c.args.line.now) _ _ _ r (wrote_part _ _ (way (g.S.Sink.took c.args.out.now) (g.S.Sink.failures c.args.out.now) c.args.line.now) _ _ (wrote_part _ _ (way (g.S.Sink.took c.args.out.now) (g.S.Sink.failures c.args.out.now) c.args.line.now) _ _ c.in_err-put_head.ensures))

pub returns-in_err-put_entries-clause-wrote : goal.returns-in_err-put_entries-clause-wrote
unfolding trace_events_text
returns-in_err-put_entries-clause-wrote g c =
    let r : c.from_residual-in_err-put_entries.result ≡ Err c.in_err-put_entries.field-0.0 = search rules in
    passed_on _ (way (g.S.Sink.took c.args.out.now) (g.S.Sink.failures c.args.out.now) c.args.line.now) _ _ _ r (wrote_part _ _ (way (g.S.Sink.took c.args.out.now) (g.S.Sink.failures c.args.out.now) c.args.line.now) _ _ (wrote_then _ _ (way (g.S.Sink.took c.args.out.now) (g.S.Sink.failures c.args.out.now) c.args.line.now) _ _ _ c.in_ok-put_head.ensures c.in_err-put_entries.ensures))

pub returns-clause-wrote : goal.returns-clause-wrote
unfolding trace_events_text
returns-clause-wrote g c = wrote_then _ _ (way (g.S.Sink.took c.args.out.now) (g.S.Sink.failures c.args.out.now) c.args.line.now) _ _ _ (wrote_then _ _ (way (g.S.Sink.took c.args.out.now) (g.S.Sink.failures c.args.out.now) c.args.line.now) _ _ _ c.in_ok-put_head.ensures c.in_ok-put_entries.ensures) c.put_end.ensures.wrote
