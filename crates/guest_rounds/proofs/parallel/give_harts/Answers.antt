use Rattle.std.proofs.Common.{◌<◌, Bool, not, None, [], length, sym, ap, ◌∙◌, arith, refl}
use Rattle.std.proofs.lemmas.List.{take_all}
use Rattle.hart_step.specs.declared.hart.Hart.{Hart}
use Rattle.guest_rounds.specs.HartEnds.{harts_of}
use Rattle.guest_rounds.proofs.AtRest.{given_more, given_on}
use Rattle.guest_rounds.proofs.parallel.give_harts.Goals as goal
use Rattle.guest_rounds.proofs.parallel.give_harts.Goals.{then-is_none, else-is_none}

pub loop-number-init : goal.loop-number-init
loop-number-init c = record { given = refl; rest = λ k h low. refl }

pub loop-number-preserved : goal.loop-number-preserved
loop-number-preserved c =
    let n = c.loop-number.number in
    let low : n < length c.args.ends.now = c.loop-number-test.true in
    let within : n < length c.args.harts.now = omega (arith, low, c.requires.count) in
    let less : n < length c.loop-number.harts = omega (arith, within, c.loop-number.auto.harts) in
    let none : Hart = record { x = []; pc = 0; done = 0; stop = None } in
    elim c.if-is_none.branch [
      | then-is_none w ↦ given_more c.args.ends.now c.args.harts.now c.loop-number.harts c.if-is_none.harts n w.index-ends-number.result low less w.harts-is c.loop-number.invariant
      | else-is_none w ↦ given_on c.args.ends.now c.args.harts.now c.loop-number.harts c.if-is_none.harts n none low less within w.harts-is (c.is_none.ensures ∙ ap (λ (b : Bool). not b) w.if-is_none.false) c.requires.at_rest c.loop-number.invariant
    ]

pub returns : goal.returns
returns c =
    let n = c.loop-number.number in
    sym (take_all n c.loop-number.harts (omega (arith, c.loop-number-test.false, c.requires.count, c.loop-number.auto.harts))) ∙ c.loop-number.invariant.given ∙ ap harts_of (take_all n c.args.ends.now (omega (arith, c.loop-number-test.false)))
