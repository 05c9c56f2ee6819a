use Rattle.std.proofs.Common.{◌≡◌, ◌∙◌, ◌++◌, [], Err, List, ap, append_assoc, append-nil, rules, sym, ℕ}
use Rattle.report.specs.Pending.{way}
use Rattle.report.specs.Report.{events_text}
use Rattle.report_lines.specs.Text.{event_text}
use Rattle.report.proofs.Writing.{loop_stop, same_text, wrote_none, wrote_then}
use Rattle.report.proofs.state.put_events.Goals as goal

pub loop-event-init : goal.loop-event-init
loop-event-init g c =
    ([], ap events_text (c.into_iter-event-iterator.ensures.into_iter_gives ∙ c.events-event-items.ensures), wrote_none (way (g.S.Sink.took c.args.out.now) (g.S.Sink.failures c.args.out.now) c.args.line.now))

pub returns-in_err-put_event : goal.returns-in_err-put_event
returns-in_err-put_event g c =
    let r : c.from_residual.result ≡ Err c.in_err-put_event.field-0.0 = search rules in
    let text = c.loop-event.invariant.0 in
    let this = event_text c.in-Some.event in
    let rest = events_text c.next.new.self in
    loop_stop text this rest _ (way (g.S.Sink.took c.args.out.now) (g.S.Sink.failures c.args.out.now) c.args.line.now) _ _ _ _ c.loop-event.invariant.2 c.in_err-put_event.ensures r
    (sym (append_assoc text this rest ∙ ap (λ (u : List ℕ). text ++ u) (sym (ap events_text c.in-Some.ensures.steps)) ∙ c.loop-event.invariant.1))

pub loop-event-preserved : goal.loop-event-preserved
loop-event-preserved g c =
    let text = c.loop-event.invariant.0 in
    let this = event_text c.in-Some.event in
    let rest = events_text c.next.new.self in (
      text ++ this,
      append_assoc text this rest ∙ ap (λ (u : List ℕ). text ++ u) (sym (ap events_text c.in-Some.ensures.steps)) ∙ c.loop-event.invariant.1,
      wrote_then text this (way (g.S.Sink.took c.args.out.now) (g.S.Sink.failures c.args.out.now) c.args.line.now) _ _ _ c.loop-event.invariant.2 c.in_ok-put_event.ensures,
    )

pub returns : goal.returns
returns g c =
    let text = c.loop-event.invariant.0 in
    same_text _ _ (way (g.S.Sink.took c.args.out.now) (g.S.Sink.failures c.args.out.now) c.args.line.now) _ _
    (sym (append-nil text) ∙ ap (λ (u : List ℕ). text ++ u) (sym (ap events_text c.in-None.ensures.steps.0)) ∙ c.loop-event.invariant.1) c.loop-event.invariant.2
