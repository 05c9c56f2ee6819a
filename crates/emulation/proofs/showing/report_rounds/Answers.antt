use Rattle.std.proofs.Common.{◌∙◌, ap, inr, refl}
use Rattle.std.proofs.lemmas.Result.{err_from_is_err_and}
use Rattle.emulation.specs.Showing.{end_of}
use Rattle.machine.specs.Machine.{Running}
use Rattle.report.specs.Report.{report_of}
use Rattle.host_io.proofs.Answered.{answered, by_writing, cut_off, refused_first}
use Rattle.emulation.proofs.showing.report_rounds.Goals as goal

pub returns-in_err-run_visited-clause-writes : goal.returns-in_err-run_visited-clause-writes
returns-in_err-run_visited-clause-writes g c =
    let p = err_from_is_err_and c.from_residual.result c.from_residual.ensures.1 in
    rw (p.1, p.2) (refused_first _ refl refl)

pub returns-in_err-report_on-clause-writes : goal.returns-in_err-report_on-clause-writes
returns-in_err-report_on-clause-writes g c =
    let p = err_from_is_err_and c.from_residual-in_err-report_on.result c.from_residual-in_err-report_on.ensures.1 in
    let w = c.in_err-report_on.ensures in
    rw (p.1, p.2)
    (cut_off _ _ _ (by_writing _ _ _ _ _ _ w) (ap (λ (m : Running). report_of m.state) c.in_ok-run_visited.ensures.done, refl) w.begun)

pub returns-clause-writes : goal.returns-clause-writes
returns-clause-writes g c =
    let after = c.in_ok-run_visited.ensures.done in
    answered _ _
    (ap (λ (m : Running). report_of m.state) after, c.end_of.ensures ∙ ap end_of (c.harts.ensures.harts ∙ ap (λ (m : Running). m.state.harts) after))
    c.in_ok-report_on.ensures.ok

pub returns-in_err-report_on-clause-waits : goal.returns-in_err-report_on-clause-waits
returns-in_err-report_on-clause-waits g c = inr c.in_ok-run_visited.ensures.known

pub returns-clause-waits : goal.returns-clause-waits
returns-clause-waits g c = inr c.in_ok-run_visited.ensures.known
