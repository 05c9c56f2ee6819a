use Rattle.std.proofs.Common.{arith}
use Rattle.std.proofs.lemmas.Grind.{common_steps}
use Rattle.picture.specs.Bands.{band_at}
use Rattle.picture.proofs.Growing.{each_more}
use Rattle.picture.proofs.page.bands.Goals as goal

pub loop-number-preserved : goal.loop-number-preserved
loop-number-preserved c =
    each_more (band_at c.args.width c.args.boxes.now) c.args.boxes.now _ c.loop-number.number _ c.args.line.now c.loop-number.line _
    c.in_ok-band_at.ensures c.loop-number.invariant (omega arith) (grind (arith, common_steps))
