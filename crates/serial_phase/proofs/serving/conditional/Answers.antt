use Rattle.serial_phase.proofs.Came.{Came}
use Rattle.serial_phase.proofs.ServedWords.{left_succeeded, left_failed}
use Rattle.serial_phase.proofs.serving.conditional.Goals as goal

pub returns-then-take : goal.returns-then-take
returns-then-take c =
    let x : Came = record { answer = c.succeed.result; hart = c.succeed.new.h; state = c.succeed.new.state } in
    let l = left_succeeded c.args.hart c.args.target c.args.value c.width_of.result c.args.h.now c.args.state.now c.take.new.self _ c.take.result x
    c.width_of.ensures c.in_default.ensures c.take.ensures.answer c.if-take.true c.take.ensures.drops c.succeed.ensures.answer c.succeed.ensures.hart c.succeed.ensures.stores in
    record { answer = l.0; leaves = l.1 }

pub returns : goal.returns
returns c =
    let l = left_failed c.args.hart c.args.target c.args.value c.width_of.result c.args.h.now c.go_on.new.self c.args.state.now c.take.new.self _ c.take.result
    c.width_of.ensures c.in_default.ensures c.take.ensures.answer c.if-take.false c.go_on.ensures c.take.ensures.drops in
    record { answer = l.0; leaves = l.1 }
