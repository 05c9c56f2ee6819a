use Rattle.std.proofs.Common.{sym, ◌∙◌}
use Rattle.serial_phase.proofs.ServedWords.{left_reserved}
use Rattle.serial_phase.proofs.serving.reserve.Goals as goal

pub returns : goal.returns
returns c =
    let l = left_reserved c.args.hart c.args.target c.width_of-width.result c.args.h.now c.go_on.new.self c.args.state.now c.set.new.self _ c.in-Ok.read c.sign_extended.result
    c.width_of-width.ensures (sym c.read.ensures.value ∙ c.in-Ok.is) c.sign_extended.ensures c.go_on.ensures c.set.ensures in
    record { answer = l.0; leaves = l.1 }
