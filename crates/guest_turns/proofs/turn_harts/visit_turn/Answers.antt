use Rattle.std.proofs.Common.{◌-◌, sym, arith}
use Rattle.serial_phase.specs.UnderWay.{At}
use Rattle.serial_phase.proofs.Came.{Came}
use Rattle.serial_phase.proofs.TurnUnderWay.{output_left}
use Rattle.guest_turns.proofs.TurnHartsFound.{shows_first, shows_more, shows_off, shows_over, shows_stopped, shows_waiting}
use Rattle.guest_turns.proofs.turn_harts.visit_turn.Goals as goal

pub loop-done-init : goal.loop-done-init
loop-done-init g c = shows_first g.V.TurnVisitor.knows c.args.turn c.args.visitor.now (record { hart = c.args.h.now; state = c.args.state.now })

pub serve-requires-clause-console : goal.serve-requires-clause-console
serve-requires-clause-console g c =
    let x : At = record { hart = c.args.h.now; state = c.args.state.now } in
    let y : At = record { hart = c.loop-done.h; state = c.loop-done.state } in
    output_left c.args.turn (c.args.turn.budget - c.loop-done.done) x y (omega (arith, c.loop-done-test.true)) c.requires.console c.loop-done.invariant.walked.under

pub returns-then-is_some : goal.returns-then-is_some
returns-then-is_some g c =
    let x : At = record { hart = c.args.h.now; state = c.args.state.now } in
    let y : At = record { hart = c.loop-done.h; state = c.loop-done.state } in
    shows_off g.V.TurnVisitor.knows c.args.turn c.loop-done.done c.args.visitor.now c.loop-done.visitor x y c.loop-done.invariant
    c.requires.began c.loop-done-test.true (sym c.if-is_some.ensures)

pub returns-in-Waits : goal.returns-in-Waits
returns-in-Waits g c =
    let x : At = record { hart = c.args.h.now; state = c.args.state.now } in
    let y : At = record { hart = c.loop-done.h; state = c.loop-done.state } in
    let z : Came = record { answer = c.serve.result; hart = c.serve.new.h; state = c.serve.new.state } in
    shows_waiting g.V.TurnVisitor.knows c.args.turn c.loop-done.done c.args.visitor.now c.loop-done.visitor x y c.loop-done.invariant
    c.make_spare.new.pages _ z c.requires.began c.loop-done-test.true (sym c.if-is_some.ensures) c.in-Waits.is c.in_ok-make_spare.ensures.idle (c.serve.ensures.answer, c.serve.ensures.serves)

pub returns-in-Stopped : goal.returns-in-Stopped
returns-in-Stopped g c =
    let x : At = record { hart = c.args.h.now; state = c.args.state.now } in
    let y : At = record { hart = c.loop-done.h; state = c.loop-done.state } in
    let z : Came = record { answer = c.serve.result; hart = c.serve.new.h; state = c.serve.new.state } in
    shows_stopped g.V.TurnVisitor.knows c.args.turn c.loop-done.done c.args.visitor.now c.loop-done.visitor x y c.loop-done.invariant
    c.make_spare.new.pages _ z c.in-Stopped.field-0 c.requires.began c.loop-done-test.true (sym c.if-is_some.ensures) c.in-Stopped.is c.in_ok-make_spare.ensures.idle (c.serve.ensures.answer, c.serve.ensures.serves)

pub loop-done-preserved : goal.loop-done-preserved
loop-done-preserved g c =
    let x : At = record { hart = c.args.h.now; state = c.args.state.now } in
    let y : At = record { hart = c.loop-done.h; state = c.loop-done.state } in
    let z : Came = record { answer = c.serve.result; hart = c.serve.new.h; state = c.serve.new.state } in
    shows_more g.V.TurnVisitor.knows c.args.turn c.loop-done.done c.args.visitor.now c.loop-done.visitor x y c.loop-done.invariant
    c.before_instruction.new.self c.make_spare.new.pages _ z c.keep.new.log _ c.in-Done.access c.loop-done-test.true (sym c.if-is_some.ensures)
    c.in-Done.is c.in_ok-make_spare.ensures.idle (c.serve.ensures.answer, c.serve.ensures.serves) c.keep.ensures.current c.keep.ensures.closed c.keep.ensures.room c.in_ok-before_instruction.ensures

pub returns : goal.returns
returns g c =
    let x : At = record { hart = c.args.h.now; state = c.args.state.now } in
    let y : At = record { hart = c.loop-done.h; state = c.loop-done.state } in
    shows_over g.V.TurnVisitor.knows c.args.turn c.loop-done.done c.args.visitor.now c.loop-done.visitor x y c.loop-done.invariant
    c.requires.began (omega (arith, c.loop-done-test.false))
