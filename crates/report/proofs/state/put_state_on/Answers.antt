use Rattle.std.proofs.Common.{◌≡◌, Err, Ok, List, rules, subst, sym, ℕ}
use Rattle.report.specs.Pending.{Wrote, way}
use Rattle.report.specs.RunStates.{body_of}
use Rattle.report.proofs.InBlocks.{whole_report}
use Rattle.report.proofs.Writing.{passed_on, put_now, same_text, wrote_part, wrote_then}
use Rattle.report.proofs.state.put_state_on.Goals as goal

pub returns-in_err-put_start-clause-wrote : goal.returns-in_err-put_start-clause-wrote
returns-in_err-put_start-clause-wrote g c =
    let r : c.from_residual.result ≡ Err c.in_err-put_start.field-0.0 = search rules in
    same_text _ _ (way (g.S.Sink.took c.args.out.now) (g.S.Sink.failures c.args.out.now) c.args.line.now) _ _ (whole_report c.args.state.now.rounds c.args.state.now.harts.now c.args.state.now.pages.now.memory.bytes c.args.state.now.output.now c.args.trace.now.events)
    (passed_on _ (way (g.S.Sink.took c.args.out.now) (g.S.Sink.failures c.args.out.now) c.args.line.now) _ _ _ r (wrote_part _ _ (way (g.S.Sink.took c.args.out.now) (g.S.Sink.failures c.args.out.now) c.args.line.now) _ _ (wrote_part _ _ (way (g.S.Sink.took c.args.out.now) (g.S.Sink.failures c.args.out.now) c.args.line.now) _ _ c.in_err-put_start.ensures)))

pub returns-in_err-put_line-clause-wrote : goal.returns-in_err-put_line-clause-wrote
returns-in_err-put_line-clause-wrote g c =
    let r : c.from_residual-in_err-put_line.result ≡ Err c.in_err-put_line.field-0.0 = search rules in
    same_text _ _ (way (g.S.Sink.took c.args.out.now) (g.S.Sink.failures c.args.out.now) c.args.line.now) _ _ (whole_report c.args.state.now.rounds c.args.state.now.harts.now c.args.state.now.pages.now.memory.bytes c.args.state.now.output.now c.args.trace.now.events)
    (passed_on _ (way (g.S.Sink.took c.args.out.now) (g.S.Sink.failures c.args.out.now) c.args.line.now) _ _ _ r (wrote_part _ _ (way (g.S.Sink.took c.args.out.now) (g.S.Sink.failures c.args.out.now) c.args.line.now) _ _ (wrote_part _ _ (way (g.S.Sink.took c.args.out.now) (g.S.Sink.failures c.args.out.now) c.args.line.now) _ _ (put_now _ (way (g.S.Sink.took c.args.out.now) (g.S.Sink.failures c.args.out.now) c.args.line.now) _ _ _ c.in_ok-put_start.ensures c.in_err-put_line.ensures.wrote))))

pub returns-in_err-put_body-clause-wrote : goal.returns-in_err-put_body-clause-wrote
returns-in_err-put_body-clause-wrote g c =
    let r : c.from_residual-in_err-put_body.result ≡ Err c.in_err-put_body.field-0.0 = search rules in
    same_text _ _ (way (g.S.Sink.took c.args.out.now) (g.S.Sink.failures c.args.out.now) c.args.line.now) _ _ (whole_report c.args.state.now.rounds c.args.state.now.harts.now c.args.state.now.pages.now.memory.bytes c.args.state.now.output.now c.args.trace.now.events)
    (passed_on _ (way (g.S.Sink.took c.args.out.now) (g.S.Sink.failures c.args.out.now) c.args.line.now) _ _ _ r (wrote_part _ _ (way (g.S.Sink.took c.args.out.now) (g.S.Sink.failures c.args.out.now) c.args.line.now) _ _
    (wrote_then _ _ (way (g.S.Sink.took c.args.out.now) (g.S.Sink.failures c.args.out.now) c.args.line.now) _ _ _ (put_now _ (way (g.S.Sink.took c.args.out.now) (g.S.Sink.failures c.args.out.now) c.args.line.now) _ _ _ c.in_ok-put_start.ensures c.in_ok-put_line.ensures.wrote)
    (subst (λ (l : List ℕ). Wrote (body_of c.args.state.now c.args.trace.now.events) (way (g.S.Sink.took c.put_line.new.out) (g.S.Sink.failures c.put_line.new.out) l) (Err c.in_err-put_body.field-0.0) (way (g.S.Sink.took c.put_body.new.out) (g.S.Sink.failures c.put_body.new.out) l)) (sym c.in_ok-put_line.ensures.empty) c.in_err-put_body.ensures))))

pub returns-clause-wrote : goal.returns-clause-wrote
returns-clause-wrote g c =
    same_text _ _ (way (g.S.Sink.took c.args.out.now) (g.S.Sink.failures c.args.out.now) c.args.line.now) _ _ (whole_report c.args.state.now.rounds c.args.state.now.harts.now c.args.state.now.pages.now.memory.bytes c.args.state.now.output.now c.args.trace.now.events)
    (wrote_then _ _ (way (g.S.Sink.took c.args.out.now) (g.S.Sink.failures c.args.out.now) c.args.line.now) _ _ _
    (wrote_then _ _ (way (g.S.Sink.took c.args.out.now) (g.S.Sink.failures c.args.out.now) c.args.line.now) _ _ _ (put_now _ (way (g.S.Sink.took c.args.out.now) (g.S.Sink.failures c.args.out.now) c.args.line.now) _ _ _ c.in_ok-put_start.ensures c.in_ok-put_line.ensures.wrote)
    (subst (λ (l : List ℕ). Wrote (body_of c.args.state.now c.args.trace.now.events) (way (g.S.Sink.took c.put_line.new.out) (g.S.Sink.failures c.put_line.new.out) l) (Ok tt) (way (g.S.Sink.took c.put_body.new.out) (g.S.Sink.failures c.put_body.new.out) l)) (sym c.in_ok-put_line.ensures.empty) c.in_ok-put_body.ensures)) c.put_end.ensures.wrote)
