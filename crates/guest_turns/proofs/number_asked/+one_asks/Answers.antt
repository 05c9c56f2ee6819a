use Rattle.std.proofs.Common.{ap, arith, length}
use Rattle.std.proofs.lemmas.Grind.{common_steps}
use Rattle.std.proofs.lemmas.Result.{IfOk-weaker}
use Rattle.guest_turns.proofs.NumbersAsked.{first_up, later_up, none_there_asks, tells_first}
use Rattle.guest_turns.proofs.number_asked.+one_asks.Goals as goal

pub returns-in-empty : goal.returns-in-empty
returns-in-empty t c = none_there_asks c.args.turn c.args.ends.now c.args.shared.now c.in-empty.len_below

pub returns-then-asks : goal.returns-then-asks
returns-then-asks t c =
    let room = c.in_ok-make_turn_room-in-len1-up.ensures in
    tells_first c.args.turn c.args.ends.now c.args.shared.now c.make_turn_room.new.shared _ (record { keeps = room.keeps; reservations = room.reservations; console = room.console })
    (first_up c.args.turn c.turn_of-its.result c.end-item.result c.args.ends.now c.make_turn_room.new.shared c.take_asking_turn-asks.result
    c.in-len1-up.len_at_least c.end-item.is c.turn_of-its.ensures c.if-asks.true c.take_asking_turn-asks.ensures.asks)

pub returns-else-asks : goal.returns-else-asks
returns-else-asks t c =
    let room = c.in_ok-make_turn_room-in-len1-up.ensures in
    IfOk-weaker c.one_asks.result _ _
    (λ b told. tells_first c.args.turn c.args.ends.now c.args.shared.now c.make_turn_room.new.shared b (record { keeps = room.keeps; reservations = room.reservations; console = room.console })
    (later_up c.args.turn c.turn_of-its.result c.end-item.result c.args.ends.now c.make_turn_room.new.shared c.take_asking_turn-asks.new.state c.take_asking_turn-asks.new.h
    c.take_asking_turn-asks.result b c.in-len1-up.len_at_least c.end-item.is c.turn_of-its.ensures c.if-asks.false c.take_asking_turn-asks.ensures.asks
    c.take_asking_turn-asks.ensures.turn told))
    c.one_asks.ensures

pub one_asks-requires : goal.one_asks-requires
one_asks-requires t c = (
  grind (arith, common_steps),
  (grind (arith, common_steps), omega (arith, ap length c.in_ok-make_turn_room-in-len1-up.ensures.reservations, c.take_asking_turn-asks.ensures.reservations, c.requires.few)),
)
