use Rattle.std.proofs.Common.{◌∙◌, arith}
use Rattle.drawing.proofs.DrawnSoFar.{ends_at_once}
use Rattle.drawing.proofs.drawn_rounds.ends_of.Goals as goal

pub returns : goal.returns
returns c = λ m same.
    ends_at_once m c.args.last c.in_ok-copied.field-0 c.args.machine.now.state.harts (omega (arith, c.if-last-gt0.false)) (c.in_ok-copied.ensures ∙ c.harts.ensures.harts) same
