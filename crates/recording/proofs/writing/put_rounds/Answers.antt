use Rattle.std.proofs.Common.{◌+◌, add-one}
use Rattle.recording.specs.Grammar.{checkpoint_after}
use Rattle.recording.specs.Views.{checkpoint_view}
use Rattle.recording.proofs.Written.{one_more, all_written}
use Rattle.recording.proofs.writing.put_rounds.Goals as goal

pub loop-index-preserved : goal.loop-index-preserved
loop-index-preserved c = λ count.
    one_more (checkpoint_after count c.args.every) checkpoint_view c.args.checkpoints.now c.loop-index.index (c.loop-index.index + 1) ((c.loop-index.index + 1) + 1) c.index-checkpoints-index.result _ c.loop-index.text.items c.put_checkpoint.new.text.items _
    c.loop-index-test.true c.index-checkpoints-index.is (add-one (c.loop-index.index + 1)) (c.in_ok-put_checkpoint.ensures count) (c.loop-index.invariant count)

pub returns : goal.returns
returns c = λ count. all_written (checkpoint_after count c.args.every) checkpoint_view c.args.checkpoints.now c.loop-index.index (c.loop-index.index + 1) c.loop-index.text.items _ c.loop-index-test.false (c.loop-index.invariant count)
