use Rattle.std.proofs.Common.{◌≡◌, ◌∙◌, Err, [], List, ap, length, rules, ℕ}
use Rattle.report.specs.Blocks.{body_text, middle_text}
use Rattle.report.specs.Pending.{way}
use Rattle.report.proofs.Writing.{passed_on, same_text, wrote_part, wrote_then}
use Rattle.report.proofs.putting.put_in_order.Goals as goal

pub returns-in_err-put_memory_blocks : goal.returns-in_err-put_memory_blocks
unfolding body_text
returns-in_err-put_memory_blocks g c =
    let r : c.from_residual.result ≡ Err c.in_err-put_memory_blocks.field-0.0 = search rules in
    passed_on _ (way (g.S.Sink.took c.args.out.now) (g.S.Sink.failures c.args.out.now) []) _ _ _ r (wrote_part _ _ (way (g.S.Sink.took c.args.out.now) (g.S.Sink.failures c.args.out.now) []) _ _ (wrote_part _ _ (way (g.S.Sink.took c.args.out.now) (g.S.Sink.failures c.args.out.now) []) _ _ c.in_err-put_memory_blocks.ensures))

pub returns-in_err-put_middle : goal.returns-in_err-put_middle
unfolding body_text
returns-in_err-put_middle g c =
    let r : c.from_residual-in_err-put_middle.result ≡ Err c.in_err-put_middle.field-0.0 = search rules in
    let middle : middle_text c.output.result.now c.event_count.result ≡ middle_text g.B.PutBody.output (length g.B.PutBody.events) = ap (λ (o : List ℕ). middle_text o c.event_count.result) c.output.ensures ∙ ap (middle_text g.B.PutBody.output) c.event_count.ensures in
    passed_on _ (way (g.S.Sink.took c.args.out.now) (g.S.Sink.failures c.args.out.now) []) _ _ _ r (wrote_part _ _ (way (g.S.Sink.took c.args.out.now) (g.S.Sink.failures c.args.out.now) []) _ _ (wrote_then _ _ (way (g.S.Sink.took c.args.out.now) (g.S.Sink.failures c.args.out.now) []) _ _ _ c.in_ok-put_memory_blocks.ensures (same_text _ _ _ _ _ middle c.in_err-put_middle.ensures)))

pub returns : goal.returns
unfolding body_text
returns g c =
    let middle : middle_text c.output.result.now c.event_count.result ≡ middle_text g.B.PutBody.output (length g.B.PutBody.events) = ap (λ (o : List ℕ). middle_text o c.event_count.result) c.output.ensures ∙ ap (middle_text g.B.PutBody.output) c.event_count.ensures in
    wrote_then _ _ (way (g.S.Sink.took c.args.out.now) (g.S.Sink.failures c.args.out.now) []) _ _ _ (wrote_then _ _ (way (g.S.Sink.took c.args.out.now) (g.S.Sink.failures c.args.out.now) []) _ _ _ c.in_ok-put_memory_blocks.ensures (same_text _ _ _ _ _ middle c.in_ok-put_middle.ensures)) c.put_event_blocks.ensures
