use Rattle.std.proofs.Common.{arith}
use Rattle.run_events.proofs.StretchByStretch.{none_more}
use Rattle.run_events.proofs.locating.add_none.Goals as goal

pub loop-done-preserved : goal.loop-done-preserved
loop-done-preserved c =
    let inv = c.loop-done.invariant in
    (omega (arith, c.loop-done-test.true), none_more c.args.events.now c.loop-done.done c.args.pcs.now.items c.loop-done.pcs.items c.add.new.pcs.items (omega (arith, c.loop-done-test.true)) inv.1 c.in_ok-add.ensures.pcs)
