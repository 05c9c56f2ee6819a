use Rattle.std.proofs.Common.{◌∙◌, ap, inl, inr, ⊎_elim}
use Rattle.hunt_commands.specs.Status.{hunt_status}
use Rattle.hunt_table.specs.declared.table.Table.{Table}
use Rattle.program_files.proofs.Begun.{on_err, whole}
use Rattle.hunt_commands.proofs.merging.merge_command.Goals as goal

pub returns-in_err-table-clause-begun : goal.returns-in_err-table-clause-begun
returns-in_err-table-clause-begun g c =
    let tables = rw c.deref.ensures.value at c.in_ok-tables.ensures.tables in
    on_err c.from_residual-in_err-table.result _ (⊎_elim (λ same. inl same) (λ m. inr (
      record { files = c.in_ok-tables.tables.items; tables = tables; made = m.0 },
      m.1,
    )) c.in_err-table.ensures.begun)

pub returns-in_err-hand_on-clause-begun : goal.returns-in_err-hand_on-clause-begun
returns-in_err-hand_on-clause-begun g c =
    let tables = rw c.deref.ensures.value at c.in_ok-tables.ensures.tables in
    let m = c.in_ok-table.ensures.merges in
    on_err c.from_residual-in_err-hand_on.result _ (inr (
      record { files = c.in_ok-tables.tables.items; tables = tables; made = m.0 },
      whole _ _ _ (c.in_err-hand_on.ensures.took ∙ m.1),
    ))

pub returns-clause-merges : goal.returns-clause-merges
returns-clause-merges g c =
    let tables = rw c.deref.ensures.value at c.in_ok-tables.ensures.tables in
    let m = c.in_ok-table.ensures.merges in (
      record { files = c.in_ok-tables.tables.items; tables = tables; made = m.0 },
      c.in_ok-hand_on.ensures.took ∙ m.1,
      c.in_ok-hand_on.ensures.out,
      c.hunt_status.ensures ∙ ap (hunt_status c.args.asked.now.fail_on) (c.deref-2.ensures.value ∙ ap (λ (t : Table). t.rows.items) m.2),
    )
