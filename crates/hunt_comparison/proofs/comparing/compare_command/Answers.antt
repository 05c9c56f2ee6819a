use Rattle.std.proofs.Common.{◌∙◌, inl, inr, ⊎_elim}
use Rattle.std.proofs.lemmas.Result.{err_from_is_err_and}
use Rattle.program_files.proofs.Begun.{on_err, whole}
use Rattle.hunt_comparison.proofs.Ended.{ends_given}
use Rattle.hunt_comparison.proofs.comparing.compare_command.Goals as goal

pub returns-in_err-status-clause-begun : goal.returns-in_err-status-clause-begun
returns-in_err-status-clause-begun g c =
    let old = c.in_ok-old_file in
    let new = c.in_ok-new_file in
    on_err c.from_residual-in_err-status.result _ (⊎_elim (λ same. inl same) (λ b. inr (
      record {
        given = record { old = old.old_file; new = new.new_file; of_old = old.ensures.path; of_new = new.ensures.path; old_held = old.ensures.held; new_held = new.ensures.held };
        made = b.0;
      },
      b.1,
    )) c.in_err-status.ensures.begun)

pub returns-in_err-hand_on-clause-begun : goal.returns-in_err-hand_on-clause-begun
returns-in_err-hand_on-clause-begun g c =
    let old = c.in_ok-old_file in
    let new = c.in_ok-new_file in
    let put = c.in_ok-status.ensures.compares in
    on_err c.from_residual-in_err-hand_on.result _ (inr (
      record {
        given = record { old = old.old_file; new = new.new_file; of_old = old.ensures.path; of_new = new.ensures.path; old_held = old.ensures.held; new_held = new.ensures.held };
        made = put.0;
      },
      whole _ _ _ (c.in_err-hand_on.ensures.took ∙ put.1),
    ))

pub returns-clause-compares : goal.returns-clause-compares
returns-clause-compares g c =
    let old = c.in_ok-old_file in
    let new = c.in_ok-new_file in
    let put = c.in_ok-status.ensures.compares in (
      record {
        given = record { old = old.old_file; new = new.new_file; of_old = old.ensures.path; of_new = new.ensures.path; old_held = old.ensures.held; new_held = new.ensures.held };
        made = put.0;
      },
      c.in_ok-hand_on.ensures.took ∙ put.1,
      c.in_ok-hand_on.ensures.out,
      put.2,
    )

pub returns-in_err-status-clause-errors : goal.returns-in_err-status-clause-errors
returns-in_err-status-clause-errors g c =
    let old = c.in_ok-old_file in
    let new = c.in_ok-new_file in
    let p = err_from_is_err_and c.from_residual-in_err-status.result c.from_residual-in_err-status.ensures.1 in
    rw (p.1, p.2) (ends_given (g.W.World.files c.args.world.now) c.args.asked.now _
    (record { old = old.old_file; new = new.new_file; of_old = old.ensures.path; of_new = new.ensures.path; old_held = old.ensures.held; new_held = new.ensures.held })
    _ c.in_err-status.ensures.errors)
