use Rattle.std.proofs.Common.{List, ap, refl}
use Rattle.std.proofs.lemmas.Result.{err_from_is_err_and}
use Rattle.hunt_table.specs.Text.{table_text}
use Rattle.hunt_table.specs.declared.merge_error.MergeError.TheVariants.{Run}
use Rattle.plan_hunt.specs.declared.row.Row.{Row}
use Rattle.host_io.proofs.Answered.{answered, by_writing_as, cut_off, refused_first}
use Rattle.hunt_table.proofs.merging.merge.Goals as goal

pub returns-in_err-table-clause-writes : goal.returns-in_err-table-clause-writes
returns-in_err-table-clause-writes g c =
    let p = err_from_is_err_and c.from_residual.result c.from_residual.ensures.1 in
    rw (p.1, p.2) (refused_first _ c.in_err-table.ensures.errors refl)

pub returns-in_err-table-clause-apart : goal.returns-in_err-table-clause-apart
returns-in_err-table-clause-apart g c = λ e.
    let p = err_from_is_err_and c.from_residual.result c.from_residual.ensures.1 in
    c.in_err-table.ensures.apart (cc (p.1, p.2))

pub returns-in_err-table-clause-not_a_table : goal.returns-in_err-table-clause-not_a_table
returns-in_err-table-clause-not_a_table g c = λ e.
    let p = err_from_is_err_and c.from_residual.result c.from_residual.ensures.1 in
    c.in_err-table.ensures.not_a_table (cc (p.1, p.2))

pub returns-in_err-table-clause-other : goal.returns-in_err-table-clause-other
returns-in_err-table-clause-other g c = λ e.
    let p = err_from_is_err_and c.from_residual.result c.from_residual.ensures.1 in
    c.in_err-table.ensures.other (cc (p.1, p.2))

pub returns-in_err-write_table-clause-writes : goal.returns-in_err-write_table-clause-writes
returns-in_err-write_table-clause-writes g c =
    let p = err_from_is_err_and c.from_residual-in_err-write_table.result c.from_residual-in_err-write_table.ensures.1 in
    let w = c.in_err-write_table.ensures.writes in
    let t = c.in_ok-table.table in
    let same = ap (λ (rows : List Row). table_text t.header rows) c.deref.ensures.value in
    rw (p.1, p.2) (cut_off _ t _ (by_writing_as Run _ _ _ _ _ _ w) (record { merged = c.in_ok-table.ensures.merged; is_text = same }) w.begun)

pub returns-clause-writes : goal.returns-clause-writes
returns-clause-writes g c =
    let t = c.in_ok-table.table in
    let same = ap (λ (rows : List Row). table_text t.header rows) c.deref.ensures.value in
    answered t _ (record { merged = c.in_ok-table.ensures.merged; is_text = same }) c.in_ok-write_table.ensures.writes.ok
