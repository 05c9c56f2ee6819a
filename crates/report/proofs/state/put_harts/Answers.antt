use Rattle.std.proofs.Common.{◌≡◌, Err, rules, arith, ap}
use Rattle.std.proofs.lemmas.List.{take_all}
use Rattle.report.specs.Pending.{way}
use Rattle.report.specs.Report.{harts_text}
use Rattle.report.proofs.Writing.{loop_more, loop_stop, same_text, wrote_none}
use Rattle.report.proofs.Parts.{harts_left, harts_more}
use Rattle.report.proofs.state.put_harts.Goals as goal

pub loop-number-init : goal.loop-number-init
loop-number-init g c = wrote_none (way (g.S.Sink.took c.args.out.now) (g.S.Sink.failures c.args.out.now) c.args.line.now)

pub returns-in_err-put_hart : goal.returns-in_err-put_hart
returns-in_err-put_hart g c =
    let r : c.from_residual.result ≡ Err c.in_err-put_hart.field-0.0 = search rules in
    loop_stop _ _ _ _ (way (g.S.Sink.took c.args.out.now) (g.S.Sink.failures c.args.out.now) c.args.line.now) _ _ _ _ c.loop-number.invariant c.in_err-put_hart.ensures r (harts_left c.args.harts.now c.loop-number.number _ (omega arith) (search rules))

pub loop-number-preserved : goal.loop-number-preserved
loop-number-preserved g c = loop_more _ _ _ (way (g.S.Sink.took c.args.out.now) (g.S.Sink.failures c.args.out.now) c.args.line.now) _ _ c.loop-number.invariant c.in_ok-put_hart.ensures (harts_more c.args.harts.now c.loop-number.number _ (omega arith) (search rules))

pub returns : goal.returns
returns g c = same_text _ _ (way (g.S.Sink.took c.args.out.now) (g.S.Sink.failures c.args.out.now) c.args.line.now) _ _ (ap (harts_text 0) (take_all c.loop-number.number c.args.harts.now (omega arith))) c.loop-number.invariant
