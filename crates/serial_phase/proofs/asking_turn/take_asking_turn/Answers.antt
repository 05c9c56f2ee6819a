use Rattle.std.proofs.Common.{◌≡◌, ◌-◌, ◌||◌, Bool, arith, ap, sym, ◌∙◌}
use Rattle.serial_phase.specs.UnderWay.{At}
use Rattle.serial_phase.proofs.Came.{Came}
use Rattle.serial_phase.proofs.TurnUnderWay.{ends_off, ends_over, ends_stopped, ends_waiting, output_left, room_left, under_first, under_more, went}
use Rattle.serial_phase.proofs.Turns.{asks_first, asks_left, asks_more, asks_off, asks_over, asks_stopped, asks_waiting, asks_whole}
use Rattle.serial_phase.proofs.asking_turn.take_asking_turn.Goals as goal

pub loop-left-init : goal.loop-left-init
loop-left-init c =
    let x : At = record { hart = c.args.h.now; state = c.args.state.now } in
    record { under = under_first c.args.turn x; asks = asks_first c.args.turn x }

pub returns-then-is_some : goal.returns-then-is_some
returns-then-is_some c =
    let x : At = record { hart = c.args.h.now; state = c.args.state.now } in
    let y : At = record { hart = c.loop-left.h; state = c.loop-left.state } in
    let u = c.loop-left.invariant in
    let e = ends_off c.args.turn c.loop-left.left x y c.loop-left-test.true (sym c.if-is_some.ensures) c.requires.began u.under in
    record {
      asks = asks_whole c.args.turn x c.loop-left.asked c.requires.began (asks_off c.args.turn c.loop-left.left c.loop-left.asked x y c.loop-left-test.true (sym c.if-is_some.ensures) u);
      turn = e.taken;
      pages = e.pages;
      console = e.console;
      log = e.log;
      reservations = e.reservations;
    }

pub serve-requires-clause-pages : goal.serve-requires-clause-pages
serve-requires-clause-pages c =
    let x : At = record { hart = c.args.h.now; state = c.args.state.now } in
    let y : At = record { hart = c.loop-left.h; state = c.loop-left.state } in
    room_left c.args.turn c.loop-left.left x y c.loop-left-test.true c.requires.pages c.loop-left.invariant.under

pub serve-requires-clause-console : goal.serve-requires-clause-console
serve-requires-clause-console c =
    let x : At = record { hart = c.args.h.now; state = c.args.state.now } in
    let y : At = record { hart = c.loop-left.h; state = c.loop-left.state } in
    output_left c.args.turn c.loop-left.left x y c.loop-left-test.true c.requires.console c.loop-left.invariant.under

pub returns-in-Waits : goal.returns-in-Waits
returns-in-Waits c =
    let x : At = record { hart = c.args.h.now; state = c.args.state.now } in
    let y : At = record { hart = c.loop-left.h; state = c.loop-left.state } in
    let z : Came = record { answer = c.serve.result; hart = c.serve.new.h; state = c.serve.new.state } in
    let u = c.loop-left.invariant in
    let e = ends_waiting c.args.turn c.loop-left.left x y z c.loop-left-test.true (sym c.if-is_some.ensures) c.requires.began
    c.in-Waits.is (c.serve.ensures.answer, c.serve.ensures.serves) u.under in
    record {
      asks = asks_whole c.args.turn x c.asked_by-asked.result c.requires.began
          (c.asked_by-asked.ensures ∙ asks_waiting c.args.turn c.loop-left.left c.loop-left.asked x y z c.loop-left-test.true (sym c.if-is_some.ensures) c.in-Waits.is (c.serve.ensures.answer, c.serve.ensures.serves) u);
      turn = e.taken;
      pages = e.pages;
      console = e.console;
      log = e.log;
      reservations = e.reservations;
    }

pub returns-in-Stopped : goal.returns-in-Stopped
returns-in-Stopped c =
    let x : At = record { hart = c.args.h.now; state = c.args.state.now } in
    let y : At = record { hart = c.loop-left.h; state = c.loop-left.state } in
    let z : Came = record { answer = c.serve.result; hart = c.serve.new.h; state = c.serve.new.state } in
    let u = c.loop-left.invariant in
    let e = ends_stopped c.args.turn c.loop-left.left x y z c.in-Stopped.field-0 c.loop-left-test.true (sym c.if-is_some.ensures) c.requires.began
    c.in-Stopped.is (c.serve.ensures.answer, c.serve.ensures.serves) u.under in
    record {
      asks = asks_whole c.args.turn x c.asked_by-asked.result c.requires.began
          (c.asked_by-asked.ensures ∙ asks_stopped c.args.turn c.loop-left.left c.loop-left.asked x y z c.in-Stopped.field-0 c.loop-left-test.true (sym c.if-is_some.ensures) c.in-Stopped.is (c.serve.ensures.answer, c.serve.ensures.serves) u);
      turn = e.taken;
      pages = e.pages;
      console = e.console;
      log = e.log;
      reservations = e.reservations;
    }

pub loop-left-preserved : goal.loop-left-preserved
loop-left-preserved c =
    let x : At = record { hart = c.args.h.now; state = c.args.state.now } in
    let y : At = record { hart = c.loop-left.h; state = c.loop-left.state } in
    let z : Came = record { answer = c.serve.result; hart = c.serve.new.h; state = c.serve.new.state } in
    let u = c.loop-left.invariant in
    record {
      under = under_more c.args.turn c.loop-left.left x y z c.keep.new.log _ c.in-Done.access c.loop-left-test.true (sym c.if-is_some.ensures)
          c.in-Done.is (c.serve.ensures.answer, c.serve.ensures.serves) c.keep.ensures.current c.keep.ensures.closed c.keep.ensures.room u.under;
      asks = asks_more c.args.turn c.loop-left.left c.loop-left.asked x y z c.keep.new.log c.in-Done.access c.loop-left-test.true (sym c.if-is_some.ensures)
          c.in-Done.is (c.serve.ensures.answer, c.serve.ensures.serves) c.keep.ensures.current u
          ∙ ap (λ (b : Bool). b || asks_left c.args.turn x (c.loop-left.left - 1) (went z c.keep.new.log z.state.shows)) (sym c.asked_by-asked.ensures);
    }

pub returns : goal.returns
returns c =
    let x : At = record { hart = c.args.h.now; state = c.args.state.now } in
    let y : At = record { hart = c.loop-left.h; state = c.loop-left.state } in
    let u = c.loop-left.invariant in
    let none : c.loop-left.left ≡ 0 = omega arith in
    let e = ends_over c.args.turn c.loop-left.left x y (omega arith) c.requires.began u.under in
    record {
      asks = asks_whole c.args.turn x c.loop-left.asked c.requires.began (asks_over c.args.turn c.loop-left.left c.loop-left.asked x y none u);
      turn = e.taken;
      pages = e.pages;
      console = e.console;
      log = e.log;
      reservations = e.reservations;
    }
