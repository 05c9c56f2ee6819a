use Rattle.std.proofs.Common.{◌≡◌, ◌*◌, ◌/◌, ℕ, Err, length, rules, arith, sym, ap}
use Rattle.report.specs.Pending.{way}
use Rattle.report_lines.specs.Rows.{memory_rows}
use Rattle.report.proofs.Writing.{loop_more, loop_stop, same_text, wrote_none}
use Rattle.report_lines.proofs.MemoryRows.{no_rows, pages_left, page_more}
use Rattle.report.proofs.state.put_pages.Goals as goal

row_count : (n m : ℕ) → 4096 * n ≡ m → 256 * n ≡ m / 16
row_count n m e = omega arith

pub loop-page-init : goal.loop-page-init
loop-page-init g c = same_text _ _ (way (g.S.Sink.took c.args.out.now) (g.S.Sink.failures c.args.out.now) c.args.line.now) _ _ (sym (no_rows 0 c.args.pages.now.memory.bytes)) (wrote_none (way (g.S.Sink.took c.args.out.now) (g.S.Sink.failures c.args.out.now) c.args.line.now))

pub returns-in_err-put_page : goal.returns-in_err-put_page
returns-in_err-put_page g c =
    let r : c.from_residual.result ≡ Err c.in_err-put_page.field-0.0 = search rules in
    let bs = c.args.pages.now.memory.bytes in
    same_text _ _ (way (g.S.Sink.took c.args.out.now) (g.S.Sink.failures c.args.out.now) c.args.line.now) _ _ (ap (memory_rows 0 bs) (row_count c.count-page-end.result (length bs) c.count-page-end.ensures.bytes))
    (loop_stop _ _ _ _ (way (g.S.Sink.took c.args.out.now) (g.S.Sink.failures c.args.out.now) c.args.line.now) _ _ _ _ c.loop-page.invariant c.in_err-put_page.ensures r (pages_left c.loop-page.page c.count-page-end.result bs (omega arith)))

pub loop-page-preserved : goal.loop-page-preserved
loop-page-preserved g c = loop_more _ _ _ (way (g.S.Sink.took c.args.out.now) (g.S.Sink.failures c.args.out.now) c.args.line.now) _ _ c.loop-page.invariant c.in_ok-put_page.ensures (page_more c.loop-page.page c.args.pages.now.memory.bytes)

pub returns : goal.returns
returns g c = same_text _ _ (way (g.S.Sink.took c.args.out.now) (g.S.Sink.failures c.args.out.now) c.args.line.now) _ _ (ap (memory_rows 0 c.args.pages.now.memory.bytes) (omega arith)) c.loop-page.invariant
