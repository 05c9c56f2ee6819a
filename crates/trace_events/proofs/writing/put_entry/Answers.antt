use Rattle.std.proofs.Common.{◌≡◌, ◌+◌, Err, ap, drop, rules}
use Rattle.host_io.specs.declared.error.RunError.TheVariants.{OutOfMemory}
use Rattle.std.specs.Option.{option_copied}
use Rattle.round_schedule.specs.Positions.{event}
use Rattle.report.specs.Pending.{way}
use Rattle.trace_events.specs.TraceEvents.{entry_text}
use Rattle.report.proofs.Writing.{line_then, refused_by, same_text}
use Rattle.trace_events.proofs.writing.put_entry.Goals as goal

pub returns-in_err-add_entry : goal.returns-in_err-add_entry
returns-in_err-add_entry g c =
    let r : c.from_residual.result ≡ Err OutOfMemory = search rules in
    refused_by _ _ (way (g.S.Sink.took c.args.out.now) (g.S.Sink.failures c.args.out.now) c.args.line.now) _ r

pub returns : goal.returns
returns g c =
    let t = c.args.events.now in
    let i = c.args.index in
    same_text (entry_text t i (option_copied c.event_before-before.result) (event t i) (drop (i + 1) t)) _ (way (g.S.Sink.took c.args.out.now) (g.S.Sink.failures c.args.out.now) c.args.line.now) _ _
    (ap (λ b. entry_text t i b (event t i) (drop (i + 1) t)) c.event_before-before.ensures)
    (line_then _ _ (way (g.S.Sink.took c.args.out.now) (g.S.Sink.failures c.args.out.now) c.args.line.now) _ _ c.in_ok-add_entry.ensures c.put_long.ensures)
