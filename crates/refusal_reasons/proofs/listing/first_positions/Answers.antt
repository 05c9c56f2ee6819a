use Rattle.std.proofs.Common.{◌+◌, ◌∙◌, arith, get_or, refl, subst, sym}
use Rattle.std.proofs.lemmas.List.{get_or_default}
use Rattle.memory_order.proofs.Facts.{within}
use Rattle.refusal_reasons.specs.Listing.{AreFirstPositions}
use Rattle.refusal_reasons.proofs.Once.{firsts_stay, firsts_set}
use Rattle.refusal_reasons.proofs.listing.first_positions.Goals as goal
use Rattle.refusal_reasons.proofs.listing.first_positions.Goals.{then-index-absent, else-index-absent}

pub index-requires : goal.index-requires
index-requires c =
    let l = within c.args.events.now (get_or c.args.order.now c.loop-p.p 0) (c.requires c.loop-p.p c.loop-p-test.true) in
    omega (arith, l, c.loop-p.invariant.size)

pub index_mut-requires : goal.index_mut-requires
index_mut-requires c =
    let l = within c.args.events.now (get_or c.args.order.now c.loop-p.p 0) (c.requires c.loop-p.p c.loop-p-test.true) in
    omega (arith, l, c.loop-p.invariant.size)

pub loop-p-preserved : goal.loop-p-preserved
loop-p-preserved c =
    let index = get_or c.args.order.now c.loop-p.p 0 in
    let l = within c.args.events.now index (c.requires c.loop-p.p c.loop-p-test.true) in
    let e = get_or_default c.loop-p.firsts.items index 0 c.index.result.now (omega (arith, l, c.loop-p.invariant.size)) in
    elim c.if-index-absent.branch [
      | then-index-absent w ↦
          subst (λ v. AreFirstPositions c.args.events.now c.args.order.now (c.loop-p.p + 1) v.items) (sym w.firsts-is)
          (firsts_set c.args.events.now c.args.order.now c.loop-p.firsts.items c.loop-p.p index c.loop-p.invariant (omega arith) refl l (e ∙ sym c.index.ensures ∙ w.if-index-absent.true))
      | else-index-absent w ↦
          subst (λ v. AreFirstPositions c.args.events.now c.args.order.now (c.loop-p.p + 1) v.items) (sym w.firsts-is)
          (firsts_stay c.args.events.now c.args.order.now c.loop-p.firsts.items c.loop-p.p index c.loop-p.invariant refl l (λ f. w.if-index-absent.false (c.index.ensures ∙ sym e ∙ f)))
    ]
