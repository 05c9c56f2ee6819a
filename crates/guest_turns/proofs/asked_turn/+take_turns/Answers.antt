use Rattle.std.proofs.Common.{ap, arith, length}
use Rattle.std.proofs.lemmas.Grind.{common_steps}
use Rattle.std.proofs.lemmas.Result.{on_ok_weaker}
use Rattle.guest_turns.proofs.AskedTurns.{none_there, turns_up}
use Rattle.guest_turns.proofs.asked_turn.+take_turns.Goals as goal

pub returns-in-empty-clause-turns : goal.returns-in-empty-clause-turns
returns-in-empty-clause-turns t c = none_there c.args.turn c.args.ends.now c.args.shared.now c.in-empty.len_below

pub returns-in_ok-make_turn_room-in-len1-up-clause-turns : goal.returns-in_ok-make_turn_room-in-len1-up-clause-turns
returns-in_ok-make_turn_room-in-len1-up-clause-turns t c =
    let room = c.in_ok-make_turn_room-in-len1-up.ensures in
    on_ok_weaker c.take_turns.result
    (λ had. turns_up c.args.turn c.turn_of-its.result c.end-item.result c.args.ends.now c.args.shared.now c.make_turn_room.new.shared c.take_turn.new.state c.take_turns.new.shared c.take_turn.new.h
    c.in-len1-up.len_at_least c.end-item.is c.turn_of-its.ensures (record { keeps = room.keeps; reservations = room.reservations; console = room.console }) c.take_turn.ensures.turn had)
    c.take_turns.ensures.turns

pub take_turns-requires : goal.take_turns-requires
take_turns-requires t c = (
  grind (arith, common_steps),
  (grind (arith, common_steps), omega (arith, ap length c.in_ok-make_turn_room-in-len1-up.ensures.reservations, c.take_turn.ensures.reservations, c.requires.few)),
)
