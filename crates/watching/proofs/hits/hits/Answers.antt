use Rattle.std.proofs.Common.{refl, arith}
use Rattle.std.proofs.lemmas.Grind.{common_steps}
use Rattle.watching.proofs.EventsTell.{hits_more}
use Rattle.watching.proofs.hits.hits.Goals as goal

pub loop-index-preserved : goal.loop-index-preserved
loop-index-preserved c =
    hits_more c.args.way c.args.saved.now c.args.watches.now c.args.events.now c.loop-index.index c.loop-index.found.items c.add_hits.new.found.items _ _ _ _ _ c.in_ok-add_hits.ensures c.loop-index.invariant (omega arith) refl
    (grind (arith, common_steps)) (grind (arith, common_steps))
