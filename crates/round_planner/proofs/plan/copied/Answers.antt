use Rattle.std.proofs.Common.{◌∙◌}
use Rattle.round_planner.proofs.Checks.{one_more_row}
use Rattle.round_planner.proofs.plan.copied.Goals as goal

pub loop-row-preserved : goal.loop-row-preserved
loop-row-preserved c =
    one_more_row (λ r. r.items) c.loop-row.copies.items c.args.rows.now c.push.new.self.items c.in_ok-from_slice.field-0 c.row-item.result c.loop-row.row-index c.row-item.result
    c.in_ok-push.ensures.items c.loop-row.invariant (c.in_ok-from_slice.ensures.items ∙ c.deref.ensures.value) c.row-item.is c.loop-row-test.true
