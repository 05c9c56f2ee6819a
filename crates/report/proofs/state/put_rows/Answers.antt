use Rattle.std.proofs.Common.{◌≡◌, ◌+◌, ◌*◌, ◌/◌, Err, length, rules, arith, sym, ap}
use Rattle.report.specs.Pending.{way}
use Rattle.report.specs.Report.{output_rows}
use Rattle.report.proofs.Writing.{loop_more, loop_stop, same_text, wrote_none}
use Rattle.report.proofs.Parts.{output_left, output_more, output_none, row_text}
use Rattle.report.proofs.state.put_rows.Goals as goal

pub loop-row-init : goal.loop-row-init
loop-row-init g c = same_text _ _ (way (g.S.Sink.took c.args.out.now) (g.S.Sink.failures c.args.out.now) c.args.line.now) _ _ (sym (output_none c.args.output.now)) (wrote_none (way (g.S.Sink.took c.args.out.now) (g.S.Sink.failures c.args.out.now) c.args.line.now))

pub returns-in_err-put_row : goal.returns-in_err-put_row
returns-in_err-put_row g c =
    let r : c.from_residual.result ≡ Err c.in_err-put_row.field-0.0 = search rules in
    loop_stop _ _ _ _ (way (g.S.Sink.took c.args.out.now) (g.S.Sink.failures c.args.out.now) c.args.line.now) _ _ _ _ c.loop-row.invariant (same_text _ _ _ _ _ (row_text c.args.output.now (32 * c.loop-row.row)) c.in_err-put_row.ensures) r (output_left c.loop-row.row ((length c.args.output.now + 31) / 32) c.args.output.now (omega arith))

pub loop-row-preserved : goal.loop-row-preserved
loop-row-preserved g c = loop_more _ _ _ (way (g.S.Sink.took c.args.out.now) (g.S.Sink.failures c.args.out.now) c.args.line.now) _ _ c.loop-row.invariant (same_text _ _ _ _ _ (row_text c.args.output.now (32 * c.loop-row.row)) c.in_ok-put_row.ensures) (output_more c.loop-row.row c.args.output.now)

pub returns : goal.returns
returns g c = same_text _ _ (way (g.S.Sink.took c.args.out.now) (g.S.Sink.failures c.args.out.now) c.args.line.now) _ _ (ap (output_rows c.args.output.now) (omega arith)) c.loop-row.invariant
