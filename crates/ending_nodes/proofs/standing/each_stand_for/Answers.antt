use Rattle.std.proofs.Common.{◌≡◌, inl, inr, arith}
use Rattle.std.proofs.lemmas.Bool.{cases_lt}
use Rattle.ending_nodes.proofs.KeptNodes.{none_past, stand_here}
use Rattle.ending_nodes.proofs.standing.each_stand_for.Goals as goal

pub loop-hart-preserved : goal.loop-hart-preserved
loop-hart-preserved c = λ h p l there.
    let n = c.loop-hart.hart in
    let few = c.if-places-others.false in
    let within = c.loop-hart-test.true in
    elim (cases_lt h n) [
      | inl small ↦ c.loop-hart.invariant h p small there
      | inr large ↦
          let same : n ≡ h = omega (arith, l, large) in
          stand_here c.args.places.now c.args.others.now n h c.index-places-hart.result c.index-others-hart.result c.deref.result.now c.deref-in-loop-hart.result.now same
          (omega (arith, few, within)) within c.index-places-hart.is c.index-others-hart.is c.deref.ensures.value c.deref-in-loop-hart.ensures.value
          (c.all_stand_for.ensures c.if-not-all_stand_for.false) p there
    ]

pub returns : goal.returns
returns c = λ yes h p there.
    let over = c.loop-hart-test.false in
    elim (cases_lt h c.loop-hart.hart) [
      | inl small ↦ c.loop-hart.invariant h p small there
      | inr large ↦ absurd (none_past c.args.others.now h p (omega (arith, over, large)) there)
    ]
