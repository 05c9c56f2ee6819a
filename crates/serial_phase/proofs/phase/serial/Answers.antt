use Rattle.std.proofs.Common.{arith}
use Rattle.std.proofs.lemmas.List.{get_or_default}
use Rattle.serial_phase.proofs.PhaseUnderWay.{Group, serving_first, needs, serving_more, serving_over}
use Rattle.serial_phase.specs.UnderWay.{At}
use Rattle.serial_phase.proofs.phase.serial.Goals as goal

pub take_turn_of_waiting-requires-clause-pages : goal.take_turn_of_waiting-requires-clause-pages
take_turn_of_waiting-requires-clause-pages c =
    let x : Group = record { harts = c.args.harts.now; state = c.args.state.now } in
    let y : Group = record { harts = c.loop-i.harts; state = c.loop-i.state } in
    let n = needs c.args.phase c.loop-i.i x y c.loop-i-test.true c.loop-i.invariant in
    n.pages

pub take_turn_of_waiting-requires-clause-console : goal.take_turn_of_waiting-requires-clause-console
take_turn_of_waiting-requires-clause-console c =
    let x : Group = record { harts = c.args.harts.now; state = c.args.state.now } in
    let y : Group = record { harts = c.loop-i.harts; state = c.loop-i.state } in
    let n = needs c.args.phase c.loop-i.i x y c.loop-i-test.true c.loop-i.invariant in
    n.console

pub take_turn_of_waiting-requires-clause-log : goal.take_turn_of_waiting-requires-clause-log
take_turn_of_waiting-requires-clause-log c =
    let x : Group = record { harts = c.args.harts.now; state = c.args.state.now } in
    let y : Group = record { harts = c.loop-i.harts; state = c.loop-i.state } in
    let n = needs c.args.phase c.loop-i.i x y c.loop-i-test.true c.loop-i.invariant in
    n.log

pub loop-i-init : goal.loop-i-init
loop-i-init c = serving_first c.args.phase (record { harts = c.args.harts.now; state = c.args.state.now }) (record {
  pages = c.requires.pages;
  console = c.requires.console;
  log = c.requires.log;
  closed = c.requires.closed;
  current = c.requires.current;
})

pub loop-i-preserved : goal.loop-i-preserved
loop-i-preserved c =
    let x : Group = record { harts = c.args.harts.now; state = c.args.state.now } in
    let y : Group = record { harts = c.loop-i.harts; state = c.loop-i.state } in
    let z : At = record { hart = c.take_turn_of_waiting.new.h; state = c.take_turn_of_waiting.new.state } in
    let e = c.take_turn_of_waiting.ensures in
    let same = c.loop-i.auto.harts in
    serving_more c.args.phase c.loop-i.i x y _ z c.end_turn.new.self _ c.loop-i-test.true same
    (get_or_default c.loop-i.harts c.loop-i.i _ _ (omega (arith, same)))
    (record { taken = e.turn; pages = e.pages; console = e.console; log = e.log; reservations = e.reservations; code = e.code })
    (record { closed = c.end_turn.ensures.closed; current = c.end_turn.ensures.current; room = c.end_turn.ensures.room })
    c.loop-i.invariant

pub returns : goal.returns
returns c =
    let x : Group = record { harts = c.args.harts.now; state = c.args.state.now } in
    let y : Group = record { harts = c.loop-i.harts; state = c.loop-i.state } in
    let s = c.loop-i.invariant in
    record {
      turns = serving_over c.args.phase c.loop-i.i x y c.loop-i.auto.harts c.loop-i-test.false s;
      reservations = s.size;
      current = s.current;
      code = s.decoded;
    }
