use Rattle.std.proofs.Common.{List, ap, refl}
use Rattle.std.proofs.lemmas.Result.{err_from_is_err_and}
use Rattle.host_io.specs.declared.error.RunError.{RunError}
use Rattle.hunt_table.specs.Text.{table_text, with_count}
use Rattle.hunter.specs.Hunts.{hunt_fault}
use Rattle.hunter.specs.declared.error.HuntError.TheVariants.{Run}
use Rattle.plan_hunt.specs.declared.row.Row.{Row}
use Rattle.host_io.proofs.Answered.{answered, by_writing_as, cut_off, fault_in, refused_first}
use Rattle.weak_hunter.specs.WeakHunts.{IsWeakReason}
use Rattle.weak_hunter.specs.declared.error.WeakHuntError.TheVariants.{Hunt}
use Rattle.weak_hunter.proofs.hunting.hunt_weakly.Goals as goal

pub returns-in_err-tally-clause-writes : goal.returns-in_err-tally-clause-writes
returns-in_err-tally-clause-writes g c =
    let s = c.args.asked.now.settings.now in
    let p = err_from_is_err_and c.from_residual.result c.from_residual.ensures.1 in
    rw (p.1, p.2)
    (refused_first _ (fault_in (hunt_fault s) Hunt (IsWeakReason s c.args.image.now) _ c.in_err-tally.ensures.settings c.in_err-tally.ensures.errors) refl)

pub returns-in_err-write_table-clause-writes : goal.returns-in_err-write_table-clause-writes
returns-in_err-write_table-clause-writes g c =
    let p = err_from_is_err_and c.from_residual-in_err-write_table.result c.from_residual-in_err-write_table.ensures.1 in
    let w = c.in_err-write_table.ensures.writes in
    let same = ap (λ (rows : List Row). table_text (with_count c.args.asked.now.settings.now.header c.in_ok-tally.tally.done) rows) c.deref.ensures.value in
    rw (p.1, p.2)
    (cut_off _ c.in_ok-tally.tally _ (by_writing_as (λ (e : RunError). Hunt (Run e)) _ _ _ _ _ _ w) (record { table = c.in_ok-tally.ensures.table; is_text = same }) w.begun)

pub returns-clause-writes : goal.returns-clause-writes
returns-clause-writes g c =
    let same = ap (λ (rows : List Row). table_text (with_count c.args.asked.now.settings.now.header c.in_ok-tally.tally.done) rows) c.deref.ensures.value in
    answered _ _ (record { table = c.in_ok-tally.ensures.table; is_text = same }) c.in_ok-write_table.ensures.writes.ok
