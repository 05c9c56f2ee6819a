use Rattle.std.proofs.Common.{◌≡◌, ◌+◌, ℕ, arith, IfSome, subst, sym, ◌∙◌}
use Rattle.plan_hunt.proofs.Slots.{slot_holds}
use Rattle.plan_hunt.proofs.block.finish.Goals as goal

-- an index counted from the block's first plan is the plan that is done next
next_of : (first before done index : ℕ) → done ≡ before + index → first + before + index ≡ first + done
next_of first before done index e = omega (arith, e)

pub add_next-requires-clause-found : goal.add_next-requires-clause-found
add_next-requires-clause-found g c κs within =
    let ends = g.Q.Runs.ends c.args.runs.now in
    let before = c.args.tally.now.done in
    let first = c.args.extent.first in
    let l = c.loop-index in
    subst (λ (n : ℕ). IfSome c.take-found.result (λ e. e ≡ ends n)) (next_of first before l.tally.done l.index l.invariant.done)
    (slot_holds ends (first + before) l.slots l.index c.index-slots-index.result c.take-found.result
    l.invariant.slots (omega (arith, c.loop-index-test.true, l.auto.slots)) c.index-slots-index.is (c.take-found.ensures.value ∙ sym c.index-slots-index.is))
