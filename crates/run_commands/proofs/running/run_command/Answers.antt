use Rattle.std.proofs.Common.{inl, inr, ⊎_elim}
use Rattle.program_files.proofs.Told.{on_error, on_value, where_refused}
use Rattle.run_commands.proofs.running.run_command.Goals as goal

pub returns-clause-runs : goal.returns-clause-runs
returns-clause-runs g c =
    let f = c.in_ok-given.given in
    on_value c.run_given.result _ _ (λ status done. (
      record { image = f.program.image.items; input = f.program.input.items; text = f.plan.text.items; budget = f.plan.budget; given = c.in_ok-given.ensures.given; made = done.0 },
      done.1,
      done.2,
      done.3,
    )) c.run_given.ensures.runs

pub returns-clause-begun : goal.returns-clause-begun
returns-clause-begun g c =
    let f = c.in_ok-given.given in
    where_refused c.run_given.result _ _ (λ h. ⊎_elim (λ same. inl same) (λ b. inr (
      record { image = f.program.image.items; input = f.program.input.items; text = f.plan.text.items; budget = f.plan.budget; given = c.in_ok-given.ensures.given; made = b.0 },
      b.1,
    )) h) c.run_given.ensures.begun

pub returns-clause-errors : goal.returns-clause-errors
returns-clause-errors g c =
    let f = c.in_ok-given.given in
    on_error c.run_given.result _ _ (λ failure h. ⊎_elim (λ sink. inr (inl sink)) (λ r. inr (inr (
    record { image = f.program.image.items; input = f.program.input.items; text = f.plan.text.items; budget = f.plan.budget; given = c.in_ok-given.ensures.given; refused = r }
    ))) h) c.run_given.ensures.errors
