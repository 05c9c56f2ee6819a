use Rattle.std.proofs.Common.{◌≡◌, Err, [], arith, rules, sym}
use Rattle.report.specs.Pending.{way}
use Rattle.report.proofs.InBlocks.{all_pieces, pages_more, pieces_left}
use Rattle.report_lines.proofs.MemoryRows.{no_rows}
use Rattle.report.proofs.Writing.{loop_more, loop_stop, same_text, wrote_none}
use Rattle.report.proofs.putting.put_memory_blocks.Goals as goal

pub loop-first-init : goal.loop-first-init
loop-first-init g c = same_text _ _ (way (g.S.Sink.took c.args.out.now) (g.S.Sink.failures c.args.out.now) []) _ _ (sym (no_rows 0 g.B.PutBody.bytes)) (wrote_none (way (g.S.Sink.took c.args.out.now) (g.S.Sink.failures c.args.out.now) []))

pub returns-in_err-put_block : goal.returns-in_err-put_block
returns-in_err-put_block g c =
    let r : c.from_residual.result ≡ Err c.in_err-put_block.field-0.0 = search rules in
    loop_stop _ _ _ _ (way (g.S.Sink.took c.args.out.now) (g.S.Sink.failures c.args.out.now) []) _ _ _ _ c.loop-first.invariant c.in_err-put_block.ensures r (pieces_left g.B.PutBody.bytes c.loop-first.first c.page_step-count.result c.page_count.result c.page_count.ensures.bytes)

pub loop-first-preserved : goal.loop-first-preserved
loop-first-preserved g c =
    loop_more _ _ _ (way (g.S.Sink.took c.args.out.now) (g.S.Sink.failures c.args.out.now) []) _ _ c.loop-first.invariant c.in_ok-put_block.ensures (pages_more g.B.PutBody.bytes c.loop-first.first c.page_step-count.result)

pub returns : goal.returns
returns g c = same_text _ _ (way (g.S.Sink.took c.args.out.now) (g.S.Sink.failures c.args.out.now) []) _ _ (all_pieces g.B.PutBody.bytes c.loop-first.first c.page_count.result c.page_count.ensures.bytes (omega arith)) c.loop-first.invariant
