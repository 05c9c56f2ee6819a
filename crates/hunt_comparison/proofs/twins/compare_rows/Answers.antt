use Rattle.std.proofs.Common.{arith}
use Rattle.hunt_comparison.proofs.Rows.{compare_more}
use Rattle.hunt_comparison.proofs.twins.compare_rows.Goals as goal

pub loop-row-preserved : goal.loop-row-preserved
loop-row-preserved c =
    rw c.in_ok-push.ensures.items (compare_more c.args.rows.now c.args.others.now c.loop-row.row-index _ c.loop-row.compared.items _ (omega arith) c.row-item.is c.twin_of-twin.ensures c.loop-row.invariant)
