use Rattle.std.proofs.Common.{◌-◌, arith, sym}
use Rattle.serial_phase.specs.UnderWay.{At}
use Rattle.serial_phase.proofs.Came.{Came}
use Rattle.serial_phase.proofs.TurnUnderWay.{under_after, under_first, under_more, went, ends_over, ends_off, ends_stopped, ends_waiting, output_left, room_left, spares_left}
use Rattle.serial_phase.proofs.phase.take_turn.Goals as goal

pub loop-left-init : goal.loop-left-init
loop-left-init c = under_first c.args.turn (record { hart = c.args.h.now; state = c.args.state.now })

pub returns-then-is_some : goal.returns-then-is_some
returns-then-is_some c =
    let x : At = record { hart = c.args.h.now; state = c.args.state.now } in
    let y : At = record { hart = c.loop-left.h; state = c.loop-left.state } in
    let e = ends_off c.args.turn c.loop-left.left x y c.loop-left-test.true (sym c.if-is_some.ensures) c.requires.began c.loop-left.invariant in
    record { turn = e.taken; pages = e.pages; console = e.console; log = e.log; reservations = e.reservations; code = e.code }

pub serve-requires-clause-pages : goal.serve-requires-clause-pages
serve-requires-clause-pages c =
    let x : At = record { hart = c.args.h.now; state = c.args.state.now } in
    let y : At = record { hart = c.loop-left.h; state = c.loop-left.state } in
    room_left c.args.turn c.loop-left.left x y c.loop-left-test.true c.requires.pages c.loop-left.invariant

pub serve-requires-clause-console : goal.serve-requires-clause-console
serve-requires-clause-console c =
    let x : At = record { hart = c.args.h.now; state = c.args.state.now } in
    let y : At = record { hart = c.loop-left.h; state = c.loop-left.state } in
    output_left c.args.turn c.loop-left.left x y c.loop-left-test.true c.requires.console c.loop-left.invariant

pub returns-in-Waits : goal.returns-in-Waits
returns-in-Waits c =
    let x : At = record { hart = c.args.h.now; state = c.args.state.now } in
    let y : At = record { hart = c.loop-left.h; state = c.loop-left.state } in
    let z : Came = record { answer = c.serve.result; hart = c.serve.new.h; state = c.serve.new.state } in
    let e = ends_waiting c.args.turn c.loop-left.left x y z c.loop-left-test.true (sym c.if-is_some.ensures) c.requires.began
    c.in-Waits.is (c.serve.ensures.answer, c.serve.ensures.serves) c.loop-left.invariant in
    record { turn = e.taken; pages = e.pages; console = e.console; log = e.log; reservations = e.reservations; code = e.code }

pub returns-in-Stopped : goal.returns-in-Stopped
returns-in-Stopped c =
    let x : At = record { hart = c.args.h.now; state = c.args.state.now } in
    let y : At = record { hart = c.loop-left.h; state = c.loop-left.state } in
    let z : Came = record { answer = c.serve.result; hart = c.serve.new.h; state = c.serve.new.state } in
    let e = ends_stopped c.args.turn c.loop-left.left x y z c.in-Stopped.field-0 c.loop-left-test.true (sym c.if-is_some.ensures) c.requires.began
    c.in-Stopped.is (c.serve.ensures.answer, c.serve.ensures.serves) c.loop-left.invariant in
    record { turn = e.taken; pages = e.pages; console = e.console; log = e.log; reservations = e.reservations; code = e.code }

pub take_plain-left-requires-clause-pages : goal.take_plain-left-requires-clause-pages
take_plain-left-requires-clause-pages c =
    let x : At = record { hart = c.args.h.now; state = c.args.state.now } in
    let y : At = record { hart = c.loop-left.h; state = c.loop-left.state } in
    let z : Came = record { answer = c.serve.result; hart = c.serve.new.h; state = c.serve.new.state } in
    spares_left c.args.turn (c.loop-left.left - 1) x (went z c.keep.new.log z.state.shows) c.requires.pages
    (under_more c.args.turn c.loop-left.left x y z c.keep.new.log z.state.shows c.in-Done.access c.loop-left-test.true (sym c.if-is_some.ensures)
    c.in-Done.is (c.serve.ensures.answer, c.serve.ensures.serves) c.keep.ensures.current c.keep.ensures.closed c.keep.ensures.room c.loop-left.invariant)

pub loop-left-preserved : goal.loop-left-preserved
loop-left-preserved c =
    let x : At = record { hart = c.args.h.now; state = c.args.state.now } in
    let y : At = record { hart = c.loop-left.h; state = c.loop-left.state } in
    let z : Came = record { answer = c.serve.result; hart = c.serve.new.h; state = c.serve.new.state } in
    let w : At = record { hart = c.take_plain-left.new.h; state = c.take_plain-left.new.state } in
    under_after c.args.turn (c.loop-left.left - 1) c.take_plain-left.result x (went z c.keep.new.log _) w
    (under_more c.args.turn c.loop-left.left x y z c.keep.new.log _ c.in-Done.access c.loop-left-test.true (sym c.if-is_some.ensures)
    c.in-Done.is (c.serve.ensures.answer, c.serve.ensures.serves) c.keep.ensures.current c.keep.ensures.closed c.keep.ensures.room c.loop-left.invariant)
    c.take_plain-left.ensures.under

pub returns : goal.returns
returns c =
    let x : At = record { hart = c.args.h.now; state = c.args.state.now } in
    let y : At = record { hart = c.loop-left.h; state = c.loop-left.state } in
    let e = ends_over c.args.turn c.loop-left.left x y (omega arith) c.requires.began c.loop-left.invariant in
    record { turn = e.taken; pages = e.pages; console = e.console; log = e.log; reservations = e.reservations; code = e.code }
