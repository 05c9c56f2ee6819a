use Rattle.std.proofs.Common.{inr, refl}
use Rattle.std.proofs.lemmas.Result.{err_from_is_err_and}
use Rattle.host_io.proofs.Answered.{refused_first}
use Rattle.drawing.proofs.drawing.draw_rounds.Goals as goal

pub draw_machine-result-requires-clause-run : goal.draw_machine-result-requires-clause-run
draw_machine-result-requires-clause-run g c = λ lifetimes within. (c.args.machine.now, c.in_ok-drawn.ensures.drawn)

pub returns-in_err-drawn-clause-writes : goal.returns-in_err-drawn-clause-writes
returns-in_err-drawn-clause-writes g c =
    let p = err_from_is_err_and c.from_residual.result c.from_residual.ensures.1 in
    rw (p.1, p.2) (refused_first _ c.in_err-drawn.ensures.refused refl)

pub returns-clause-writes : goal.returns-clause-writes
returns-clause-writes g c = c.draw_machine-result.ensures.writes c.args.machine.now c.in_ok-drawn.ensures.drawn

pub returns-clause-waits : goal.returns-clause-waits
returns-clause-waits g c = inr c.in_ok-drawn.ensures.seen
