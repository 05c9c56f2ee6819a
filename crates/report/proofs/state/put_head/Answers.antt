use Rattle.std.proofs.Common.{◌≡◌, Err, rules}
use Rattle.report.specs.Pending.{way}
use Rattle.report.proofs.InBlocks.{whole_head}
use Rattle.report.proofs.Writing.{passed_on, same_text, wrote_part, wrote_then}
use Rattle.report.proofs.state.put_head.Goals as goal

pub returns-in_err-put_start : goal.returns-in_err-put_start
returns-in_err-put_start g c =
    let r : c.from_residual.result ≡ Err c.in_err-put_start.field-0.0 = search rules in
    same_text _ _ (way (g.S.Sink.took c.args.out.now) (g.S.Sink.failures c.args.out.now) c.args.line.now) _ _ (whole_head c.args.state.now.rounds c.args.state.now.harts.now c.args.state.now.pages.now.memory.bytes c.args.state.now.output.now)
    (passed_on _ (way (g.S.Sink.took c.args.out.now) (g.S.Sink.failures c.args.out.now) c.args.line.now) _ _ _ r (wrote_part _ _ (way (g.S.Sink.took c.args.out.now) (g.S.Sink.failures c.args.out.now) c.args.line.now) _ _ (wrote_part _ _ (way (g.S.Sink.took c.args.out.now) (g.S.Sink.failures c.args.out.now) c.args.line.now) _ _ c.in_err-put_start.ensures)))

pub returns-in_err-put_pages : goal.returns-in_err-put_pages
returns-in_err-put_pages g c =
    let r : c.from_residual-in_err-put_pages.result ≡ Err c.in_err-put_pages.field-0.0 = search rules in
    same_text _ _ (way (g.S.Sink.took c.args.out.now) (g.S.Sink.failures c.args.out.now) c.args.line.now) _ _ (whole_head c.args.state.now.rounds c.args.state.now.harts.now c.args.state.now.pages.now.memory.bytes c.args.state.now.output.now)
    (passed_on _ (way (g.S.Sink.took c.args.out.now) (g.S.Sink.failures c.args.out.now) c.args.line.now) _ _ _ r (wrote_part _ _ (way (g.S.Sink.took c.args.out.now) (g.S.Sink.failures c.args.out.now) c.args.line.now) _ _ (wrote_then _ _ (way (g.S.Sink.took c.args.out.now) (g.S.Sink.failures c.args.out.now) c.args.line.now) _ _ _ c.in_ok-put_start.ensures c.in_err-put_pages.ensures)))

pub returns : goal.returns
returns g c =
    same_text _ _ (way (g.S.Sink.took c.args.out.now) (g.S.Sink.failures c.args.out.now) c.args.line.now) _ _ (whole_head c.args.state.now.rounds c.args.state.now.harts.now c.args.state.now.pages.now.memory.bytes c.args.state.now.output.now)
    (wrote_then _ _ (way (g.S.Sink.took c.args.out.now) (g.S.Sink.failures c.args.out.now) c.args.line.now) _ _ _ (wrote_then _ _ (way (g.S.Sink.took c.args.out.now) (g.S.Sink.failures c.args.out.now) c.args.line.now) _ _ _ c.in_ok-put_start.ensures c.in_ok-put_pages.ensures) c.put_output.ensures)
