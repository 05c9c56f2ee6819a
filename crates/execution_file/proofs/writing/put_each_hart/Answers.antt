use Rattle.std.proofs.Common.{◌+◌, add-one}
use Rattle.execution_file.specs.Grammar.{hart_lines}
use Rattle.execution_file.specs.Views.{hart_view}
use Rattle.execution_file.proofs.Written.{one_more}
use Rattle.execution_file.proofs.writing.put_each_hart.Goals as goal

pub loop-index-preserved : goal.loop-index-preserved
loop-index-preserved c =
    one_more hart_lines hart_view c.args.harts.now c.loop-index.index c.loop-index.index (c.loop-index.index + 1) c.index-harts-index.result _ c.loop-index.text.items c.put_hart.new.text.items _
    c.loop-index-test.true c.index-harts-index.is (add-one c.loop-index.index) c.in_ok-put_hart.ensures c.loop-index.invariant
