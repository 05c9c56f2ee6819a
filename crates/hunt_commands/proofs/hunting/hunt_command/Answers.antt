use Rattle.std.proofs.Common.{◌∙◌, ap, inl, inr, ⊎_elim}
use Rattle.hunt_commands.specs.Status.{hunt_status}
use Rattle.program_files.proofs.Begun.{on_err, whole}
use Rattle.hunt_commands.proofs.hunting.hunt_command.Goals as goal

pub returns-in_err-tally-clause-begun : goal.returns-in_err-tally-clause-begun
returns-in_err-tally-clause-begun g c =
    let f = c.in_ok-given.given in
    on_err c.from_residual-in_err-tally.result _ (⊎_elim (λ same. inl same) (λ b. inr (
      record { image = f.image.items; input = f.input.items; given = c.in_ok-given.ensures.program; made = b.0 },
      b.1,
    )) c.in_err-tally.ensures.begun)

pub returns-in_err-hand_on-clause-begun : goal.returns-in_err-hand_on-clause-begun
returns-in_err-hand_on-clause-begun g c =
    let f = c.in_ok-given.given in
    let done = c.in_ok-tally.ensures.hunts in
    on_err c.from_residual-in_err-hand_on.result _ (inr (
      record { image = f.image.items; input = f.input.items; given = c.in_ok-given.ensures.program; made = done.0 },
      whole _ _ _ (c.in_err-hand_on.ensures.took ∙ done.1),
    ))

pub returns-clause-hunts : goal.returns-clause-hunts
returns-clause-hunts g c =
    let f = c.in_ok-given.given in
    let done = c.in_ok-tally.ensures.hunts in
    let fail_on = c.args.asked.now.fail_on in (
      record { image = f.image.items; input = f.input.items; given = c.in_ok-given.ensures.program; made = done.0 },
      c.in_ok-hand_on.ensures.took ∙ done.1,
      c.in_ok-hand_on.ensures.out,
      c.hunt_status.ensures ∙ ap (hunt_status fail_on) (c.deref-3.ensures.value ∙ done.2),
    )
