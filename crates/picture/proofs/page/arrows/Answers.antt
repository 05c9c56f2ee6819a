use Rattle.std.proofs.Common.{arith}
use Rattle.std.proofs.lemmas.Grind.{common_steps}
use Rattle.picture.specs.Arrows.{arrows_to}
use Rattle.picture.proofs.Growing.{each_more}
use Rattle.picture.proofs.page.arrows.Goals as goal

pub loop-number-preserved : goal.loop-number-preserved
loop-number-preserved c =
    each_more (arrows_to c.args.trace.now.events) c.args.boxes.now _ c.loop-number.number _ c.args.line.now c.loop-number.line _
    c.in_ok-arrows_to.ensures c.loop-number.invariant (omega arith) (grind (arith, common_steps))
