use Rattle.std.proofs.lemmas.Result.{err_from_is_err_and}
use Rattle.host_io.proofs.Answered.{answered, refused_too}
use Rattle.emulation.proofs.InOrder.{answered_in_order, refused_in_order}
use Rattle.emulation.proofs.emulation.emulate.Goals as goal

pub returns-in_err-report_run-clause-writes : goal.returns-in_err-report_run-clause-writes
returns-in_err-report_run-clause-writes g c =
    let p = err_from_is_err_and c.from_residual.result c.from_residual.ensures.1 in
    rw (p.1, p.2) (refused_too _ (λ end text is. (tt, (end, is))) c.in_err-report_run.ensures.writes)

pub returns-in_err-report_run-clause-in_order : goal.returns-in_err-report_run-clause-in_order
returns-in_err-report_run-clause-in_order g c =
    let p = err_from_is_err_and c.from_residual.result c.from_residual.ensures.1 in
    rw (p.1, p.2) (refused_in_order _ _ _ c.in_err-report_run.ensures.in_order)

pub returns-clause-writes : goal.returns-clause-writes
returns-clause-writes g c =
    let w = c.in_ok-report_run.ensures.writes.written in
    answered tt w.text (c.in_ok-report_run.field-0, w.is_text) w.bytes

pub returns-clause-in_order : goal.returns-clause-in_order
returns-clause-in_order g c = answered_in_order _ _ _ tt c.in_ok-report_run.ensures.in_order
