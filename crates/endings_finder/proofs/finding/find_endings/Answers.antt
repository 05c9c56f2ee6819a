use Rattle.std.proofs.Common.{refl}
use Rattle.std.proofs.lemmas.Result.{err_from_is_err_and}
use Rattle.hunter.specs.Hunts.{IsHuntReason, hunt_fault}
use Rattle.hunter.specs.declared.error.HuntError.TheVariants.{Run}
use Rattle.host_io.proofs.Answered.{answered, by_writing_as, cut_off, fault_or, refused_first}
use Rattle.endings_finder.proofs.finding.find_endings.Goals as goal

pub returns-in_err-findings-clause-writes : goal.returns-in_err-findings-clause-writes
returns-in_err-findings-clause-writes g c =
    let s = c.args.settings.hunt in
    let p = err_from_is_err_and c.from_residual.result c.from_residual.ensures.1 in
    rw (p.1, p.2)
    (refused_first _ (fault_or (hunt_fault s) (IsHuntReason s c.args.image.now) _ c.in_err-findings.ensures.settings c.in_err-findings.ensures.errors) refl)

pub returns-in_err-write_endings-clause-writes : goal.returns-in_err-write_endings-clause-writes
returns-in_err-write_endings-clause-writes g c =
    let p = err_from_is_err_and c.from_residual-in_err-write_endings.result c.from_residual-in_err-write_endings.ensures.1 in
    let w = c.in_err-write_endings.ensures.writes in
    let h = c.in_ok-findings.ensures.confirmed in
    let table = c.told-found.ensures.table c.args.image.now c.args.input.now h.allowed c.in_ok-findings.ensures.all c.in_ok-findings.ensures.unasked c.in_ok-findings.ensures.fences in
    let kept = c.told-found.ensures.kept h.kept in
    rw (p.1, p.2) (cut_off _ c.told-found.result _ (by_writing_as Run _ _ _ _ _ _ w) (record { table = table; kept = kept; is_text = refl }) w.begun)

pub returns-clause-writes : goal.returns-clause-writes
returns-clause-writes g c =
    let h = c.in_ok-findings.ensures.confirmed in
    let table = c.told-found.ensures.table c.args.image.now c.args.input.now h.allowed c.in_ok-findings.ensures.all c.in_ok-findings.ensures.unasked c.in_ok-findings.ensures.fences in
    let kept = c.told-found.ensures.kept h.kept in
    answered _ _ (record { table = table; kept = kept; is_text = refl }) c.in_ok-write_endings.ensures.writes.ok
