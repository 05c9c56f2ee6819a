use Rattle.execution_file.proofs.Doing.{parts_more_done}
use Rattle.execution_file.proofs.parts.deeds.Goals as goal

pub loop-i-preserved : goal.loop-i-preserved
loop-i-preserved c =
    parts_more_done c.args.harts.now c.loop-i.i c.args.events.now _ c.loop-i.parts.items c.add_number.new.parts.items c.loop-i-test.true c.in_ok-add_number.ensures c.loop-i.invariant
