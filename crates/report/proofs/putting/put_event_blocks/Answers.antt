use Rattle.std.proofs.Common.{◌≡◌, Err, [], arith, rules}
use Rattle.report.specs.Pending.{way}
use Rattle.report.proofs.InBlocks.{all_blocks, blocks_left, blocks_more}
use Rattle.report.proofs.Writing.{loop_more, loop_stop, same_text, wrote_none}
use Rattle.report.proofs.putting.put_event_blocks.Goals as goal

pub loop-number-init : goal.loop-number-init
loop-number-init g c = wrote_none (way (g.S.Sink.took c.args.out.now) (g.S.Sink.failures c.args.out.now) [])

pub returns-in_err-put_block : goal.returns-in_err-put_block
returns-in_err-put_block g c =
    let r : c.from_residual.result ≡ Err c.in_err-put_block.field-0.0 = search rules in
    loop_stop _ _ _ _ (way (g.S.Sink.took c.args.out.now) (g.S.Sink.failures c.args.out.now) []) _ _ _ _ c.loop-number.invariant c.in_err-put_block.ensures r (blocks_left g.B.PutBody.events c.loop-number.number)

pub loop-number-preserved : goal.loop-number-preserved
loop-number-preserved g c =
    loop_more _ _ _ (way (g.S.Sink.took c.args.out.now) (g.S.Sink.failures c.args.out.now) []) _ _ c.loop-number.invariant c.in_ok-put_block.ensures (blocks_more g.B.PutBody.events c.loop-number.number)

pub returns : goal.returns
returns g c = same_text _ _ (way (g.S.Sink.took c.args.out.now) (g.S.Sink.failures c.args.out.now) []) _ _ (all_blocks g.B.PutBody.events c.loop-number.number (omega arith)) c.loop-number.invariant
