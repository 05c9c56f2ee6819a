use Rattle.std.proofs.Common.{◌≡◌, List, ℕ, [], Err, rules, subst, append-nil}
use Rattle.report.specs.Pending.{Wrote, way}
use Rattle.report.specs.Shown.{output_line}
use Rattle.report.proofs.Writing.{passed_on, wrote_then}
use Rattle.report.proofs.shown.put_output_line.Goals as goal

pub returns-in_err-put_count-clause-wrote : goal.returns-in_err-put_count-clause-wrote
unfolding output_line
returns-in_err-put_count-clause-wrote g c =
    let r : c.from_residual.result ≡ Err c.in_err-put_count.field-0.0 = search rules in
    passed_on _ (way (g.S.Sink.took c.args.out.now) (g.S.Sink.failures c.args.out.now) c.args.line.now) _ _ _ r c.in_err-put_count.ensures

pub returns-clause-wrote : goal.returns-clause-wrote
unfolding output_line
returns-clause-wrote g c =
    subst (λ (text : List ℕ). Wrote text (way (g.S.Sink.took c.args.out.now) (g.S.Sink.failures c.args.out.now) c.args.line.now) c.put_line.result (way (g.S.Sink.took c.put_line.new.out) (g.S.Sink.failures c.put_line.new.out) c.put_line.new.line)) (append-nil (output_line c.args.output.now))
    (wrote_then _ [] (way (g.S.Sink.took c.args.out.now) (g.S.Sink.failures c.args.out.now) c.args.line.now) _ _ _ c.in_ok-put_count.ensures c.put_line.ensures.wrote)
