use Rattle.std.proofs.Common.{arith, map}
use Rattle.std.proofs.lemmas.Grind.{common_steps}
use Rattle.trace.specs.Traced.{opening_at}
use Rattle.picture.specs.Titles.{told}
use Rattle.picture.specs.Boxes.{box_text}
use Rattle.picture.proofs.Growing.{each_more}
use Rattle.picture.proofs.page.event_boxes.Goals as goal

pub loop-number-preserved : goal.loop-number-preserved
loop-number-preserved c =
    each_more (box_text c.args.trace.now.events (opening_at c.args.trace.now.opening) (map told c.args.sites.now)) c.args.boxes.now _ c.loop-number.number _ c.args.line.now c.loop-number.line _
    c.in_ok-event_box.ensures c.loop-number.invariant (omega arith) (grind (arith, common_steps))
