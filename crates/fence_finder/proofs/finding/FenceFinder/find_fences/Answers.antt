use Rattle.std.proofs.Common.{refl}
use Rattle.std.proofs.lemmas.Result.{err_from_is_err_and}
use Rattle.host_io.specs.declared.error.RunError.{RunError}
use Rattle.hunter.specs.Hunts.{hunt_fault}
use Rattle.hunter.specs.declared.error.HuntError.TheVariants.{Run}
use Rattle.host_io.proofs.Answered.{answered, by_writing_as, cut_off, fault_in, refused_first}
use Rattle.weak_hunter.specs.WeakHunts.{IsWeakReason}
use Rattle.weak_hunter.specs.declared.error.WeakHuntError.TheVariants.{Hunt}
use Rattle.fence_finder.proofs.finding.FenceFinder.find_fences.Goals as goal

pub returns-in_err-found-clause-writes : goal.returns-in_err-found-clause-writes
returns-in_err-found-clause-writes g c =
    let s = c.args.settings.hunt in
    let p = err_from_is_err_and c.from_residual.result c.from_residual.ensures.1 in
    rw (p.1, p.2)
    (refused_first _ (fault_in (hunt_fault s) Hunt (IsWeakReason s c.args.image.now) _ c.in_err-found.ensures.settings c.in_err-found.ensures.errors) refl)

pub returns-in_err-write_fences-clause-writes : goal.returns-in_err-write_fences-clause-writes
returns-in_err-write_fences-clause-writes g c =
    let p = err_from_is_err_and c.from_residual-in_err-write_fences.result c.from_residual-in_err-write_fences.ensures.1 in
    let w = c.in_err-write_fences.ensures.writes in
    let found = c.in_ok-found.ensures in
    rw (p.1, p.2) (cut_off _ c.in_ok-found.found _ (by_writing_as (λ (e : RunError). Hunt (Run e)) _ _ _ _ _ _ w)
    (record { table = found.shown; told = found.searched; is_text = refl }) w.begun)

pub returns-clause-writes : goal.returns-clause-writes
returns-clause-writes g c =
    let found = c.in_ok-found.ensures in
    answered _ _ (record { table = found.shown; told = found.searched; is_text = refl }) c.in_ok-write_fences.ensures.writes.ok
