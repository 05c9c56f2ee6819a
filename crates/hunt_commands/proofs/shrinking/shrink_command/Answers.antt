use Rattle.std.proofs.Common.{◌∙◌, ◌++◌, ap, inl, inr, refl, subst, ⊎_elim}
use Rattle.host_io.specs.Taken.{BeganText}
use Rattle.round_planner.specs.PlanText.{plan_text}
use Rattle.round_planner.specs.Quotas.{Planned}
use Rattle.program_files.proofs.Begun.{on_err, whole}
use Rattle.hunt_commands.proofs.shrinking.shrink_command.Goals as goal

pub returns-in_err-put_plan-clause-begun : goal.returns-in_err-put_plan-clause-begun
returns-in_err-put_plan-clause-begun g c =
    let f = c.in_ok-given.given in
    let done = c.in_ok-plan.ensures.shrinks in
    let old = g.O.Sink.took c.args.out.now in
    let new = g.O.Sink.took c.put_plan.new.out in
    on_err c.from_residual-in_err-put_plan.result _ (⊎_elim (λ same. inl same) (λ b. inr (
      record { image = f.image.items; input = f.input.items; given = c.in_ok-given.ensures.program; made = done.0 },
      subst (λ (p : Planned). BeganText old new (plan_text p.rows)) done.1 b,
    )) c.in_err-put_plan.ensures.begun)

pub returns-in_err-hand_on-clause-begun : goal.returns-in_err-hand_on-clause-begun
returns-in_err-hand_on-clause-begun g c =
    let f = c.in_ok-given.given in
    let done = c.in_ok-plan.ensures.shrinks in
    let old = g.O.Sink.took c.args.out.now in
    on_err c.from_residual-in_err-hand_on.result _ (inr (
      record { image = f.image.items; input = f.input.items; given = c.in_ok-given.ensures.program; made = done.0 },
      whole _ _ _ (c.in_err-hand_on.ensures.took ∙ c.in_ok-put_plan.ensures.puts ∙ ap (λ (p : Planned). old ++ plan_text p.rows) done.1),
    ))

pub returns-clause-shrinks : goal.returns-clause-shrinks
returns-clause-shrinks g c =
    let f = c.in_ok-given.given in
    let done = c.in_ok-plan.ensures.shrinks in
    let old = g.O.Sink.took c.args.out.now in (
      record { image = f.image.items; input = f.input.items; given = c.in_ok-given.ensures.program; made = done.0 },
      c.in_ok-hand_on.ensures.took ∙ c.in_ok-put_plan.ensures.puts ∙ ap (λ (p : Planned). old ++ plan_text p.rows) done.1,
      c.in_ok-hand_on.ensures.out,
      refl,
    )
