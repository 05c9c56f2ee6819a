use Rattle.std.proofs.Common.{arith}
use Rattle.std.proofs.lemmas.Grind.{common_steps}
use Rattle.std.proofs.lemmas.Result.{on_ok_weaker}
use Rattle.guest_turns.proofs.TurnHartsFound.{none_shown, one_shown}
use Rattle.guest_turns.proofs.turn_harts.+visit_each.Goals as goal

pub returns-in-empty : goal.returns-in-empty
returns-in-empty g t c = none_shown g.V.TurnVisitor.knows c.args.turn c.args.ends.now c.args.shared.now c.args.visitor.now c.in-empty.len_below

pub returns-in_ok-after_turn-in-len1-up : goal.returns-in_ok-after_turn-in-len1-up
returns-in_ok-after_turn-in-len1-up g t c =
    on_ok_weaker c.visit_each.result
    (λ shows. one_shown g.V.TurnVisitor.knows c.args.turn c.turn_of-its.result c.end-item.result c.args.ends.now c.args.shared.now c.visit_turn.new.state c.reserve.new.self c.reserve-in-len1-up.new.self c.clear.new.self _ _ c.visit_turn.new.h
    c.args.visitor.now c.visit_turn.new.visitor c.after_turn.new.self c.visit_each.new.visitor _
    c.in-len1-up.len_at_least c.end-item.is c.turn_of-its.ensures c.reserve.ensures.same c.in_ok-count-in-len1-up.ensures c.in_ok-after_turn-in-len1-up.ensures shows)
    c.visit_each.ensures

pub visit_each-requires : goal.visit_each-requires
visit_each-requires g t c = λ κs within.
    let walked = c.in_ok-count-in-len1-up.ensures.walks in (
      grind (arith, common_steps),
      (within, (grind (arith, common_steps), (omega (arith, walked.reservations, c.requires.few), c.clear.ensures.current))),
    )
