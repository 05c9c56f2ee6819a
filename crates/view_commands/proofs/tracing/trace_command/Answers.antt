use Rattle.std.proofs.Common.{◌∙◌, inl, inr, refl, ⊎_elim}
use Rattle.program_files.proofs.Begun.{on_err, whole}
use Rattle.view_commands.proofs.tracing.trace_command.Goals as goal

pub returns-clause-traces : goal.returns-clause-traces
returns-clause-traces g c =
    let f = c.in_ok-given.given in
    let done = c.in_ok-trace_given.ensures.traces in (
      record { image = f.program.image.items; input = f.program.input.items; text = f.plan.text.items; budget = f.plan.budget; given = c.in_ok-given.ensures.given; made = done.0 },
      c.in_ok-hand_on.ensures.took ∙ done.1,
      c.in_ok-hand_on.ensures.out,
      refl,
    )

pub returns-in_err-trace_given-clause-begun : goal.returns-in_err-trace_given-clause-begun
returns-in_err-trace_given-clause-begun g c =
    let f = c.in_ok-given.given in
    on_err c.from_residual-in_err-trace_given.result _ (⊎_elim (λ same. inl same) (λ b. inr (
      record { image = f.program.image.items; input = f.program.input.items; text = f.plan.text.items; budget = f.plan.budget; given = c.in_ok-given.ensures.given; made = b.0 },
      b.1,
    )) c.in_err-trace_given.ensures.begun)

pub returns-in_err-hand_on-clause-begun : goal.returns-in_err-hand_on-clause-begun
returns-in_err-hand_on-clause-begun g c =
    let f = c.in_ok-given.given in
    let done = c.in_ok-trace_given.ensures.traces in
    on_err c.from_residual-in_err-hand_on.result _ (inr (
      record { image = f.program.image.items; input = f.program.input.items; text = f.plan.text.items; budget = f.plan.budget; given = c.in_ok-given.ensures.given; made = done.0 },
      whole _ _ _ (c.in_err-hand_on.ensures.took ∙ done.1),
    ))
