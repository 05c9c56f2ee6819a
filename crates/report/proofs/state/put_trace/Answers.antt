use Rattle.std.proofs.Common.{◌≡◌, ◌++◌, Err, List, ℕ, ap, codes, length, rules}
use Rattle.std.specs.Fmt.{decimal}
use Rattle.report.specs.Pending.{way}
use Rattle.report.specs.Report.{events_text, trace_text}
use Rattle.report.proofs.Writing.{passed_on, same_text, wrote_part, wrote_then}
use Rattle.report.proofs.state.put_trace.Goals as goal

pub returns-in_err-put_count : goal.returns-in_err-put_count
unfolding trace_text
returns-in_err-put_count g c =
    let r : c.from_residual.result ≡ Err c.in_err-put_count.field-0.0 = search rules in
    let text : ℕ → List ℕ = λ n. codes "trace " ++ decimal n ++ codes "\n" ++ events_text c.args.trace.now.events in
    passed_on _ (way (g.S.Sink.took c.args.out.now) (g.S.Sink.failures c.args.out.now) c.args.line.now) _ _ _ r
    (same_text (text c.len.result) (text (length c.args.trace.now.events)) (way (g.S.Sink.took c.args.out.now) (g.S.Sink.failures c.args.out.now) c.args.line.now) _ _ (ap text c.len.ensures.len)
    (wrote_part _ _ (way (g.S.Sink.took c.args.out.now) (g.S.Sink.failures c.args.out.now) c.args.line.now) _ _ c.in_err-put_count.ensures))

pub returns : goal.returns
unfolding trace_text
returns g c =
    let text : ℕ → List ℕ = λ n. codes "trace " ++ decimal n ++ codes "\n" ++ events_text c.args.trace.now.events in
    same_text (text c.len.result) (text (length c.args.trace.now.events)) (way (g.S.Sink.took c.args.out.now) (g.S.Sink.failures c.args.out.now) c.args.line.now) _ _ (ap text c.len.ensures.len)
    (wrote_then _ _ (way (g.S.Sink.took c.args.out.now) (g.S.Sink.failures c.args.out.now) c.args.line.now) _ _ _ c.in_ok-put_count.ensures c.put_events.ensures)
