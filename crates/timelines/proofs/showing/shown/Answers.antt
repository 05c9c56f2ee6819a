use Rattle.std.proofs.Common.{refl, arith}
use Rattle.std.proofs.lemmas.Result.{IfOk-weaker}
use Rattle.timelines.proofs.ShownThere.{shown_in_part, shown_in_turn}
use Rattle.timelines.proofs.showing.shown.Goals as goal

pub returns-in_ok-sight-in-Parallel-clause-sight : goal.returns-in_ok-sight-in-Parallel-clause-sight
returns-in_ok-sight-in-Parallel-clause-sight g c = λ m is code.
    shown_in_part m c.args.machine.now c.args.code.now c.harts-2.result.now c.args.place.now c.args.number _ _ _ is code c.harts-2.ensures.harts (omega (arith, c.if-number-harts.false, c.harts.ensures.count, c.harts-2.ensures.count)) refl
    (λ e. c.if-number-place.false e) c.in-Parallel.is c.in_ok-sight-in-Parallel.ensures

pub returns-in-Serial-clause-sight : goal.returns-in-Serial-clause-sight
returns-in-Serial-clause-sight g c = λ m is code.
    IfOk-weaker c.beside_turn.result _ _
    (λ s p. shown_in_turn m c.args.machine.now c.harts-2.result.now c.args.place.now c.args.number _ _ s is c.harts-2.ensures.harts (omega (arith, c.if-number-harts.false, c.harts.ensures.count, c.harts-2.ensures.count)) refl
    (λ e. c.if-number-place.false e) c.in-Serial.is p)
    (c.beside_turn.ensures.sight m is code)
